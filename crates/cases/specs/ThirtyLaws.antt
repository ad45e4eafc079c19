-- Document 02's E2 holds: the law of Thirty.antt.
use Rattle.std.specs.Prelude.{◌≡◌, refl, Bool, true, false, ℕ, leb}
use Rattle.std.proofs.Common.{arith, leb-true, leb-false, le-leb}
use Rattle.std.proofs.lemmas.Bool.{lt-leb}
use Rattle.std.specs.Float.Ieee.{round}
use Rattle.statistics.specs.declared.Confidence.{Confidence}
use Rattle.statistics.specs.Table.{table_entry, thousandths, z_thousandths}
use Rattle.statistics.specs.Scores.{milli, z_at, z_score, entry_at, table_score, t_score}
use Rattle.cases.specs.Thirty.{rust_score, Thirty}

elsewhere : (c : Confidence) (df : ℕ) → (df ≡ 30 → ⊥) → (t : Bool) → leb df 30 ≡ t → t_score c df ≡ rust_score c df
unfolding t_score rust_score
elsewhere c df h true e = let le = leb-true df 30 e in rw (e, lt-leb 30 df (omega arith)) refl
elsewhere c df h false e = let above = leb-false df 30 e in rw (e, le-leb 30 df (omega arith)) refl

pub thirty : Thirty
unfolding rust_score t_score table_score entry_at table_entry milli z_score z_at thousandths z_thousandths round
thirty =
    record {
      p80 = (refl, refl);
      p90 = (refl, refl);
      p95 = (refl, refl);
      p98 = (refl, refl);
      p99 = (refl, refl);
      p999 = (refl, refl);
      elsewhere = λ c df h. elsewhere c df h (leb df 30) refl;
      custom = λ z. refl;
    }
