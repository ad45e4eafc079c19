-- `split::split_within` meets its contract.
use Rattle.std.proofs.Common.{arith, refl, ap, Err, length}
use Rattle.samples.specs.Held.{held}
use Rattle.basis.specs.declared.Basis.TheVariants.{Curve}
use Rattle.monomial.specs.RowLaws.{curve_weighted, length_weighted_at}
use Rattle.refusal.specs.NamedLaws.{let_by, stopped}
use Rattle.split.proofs.Splitting.{split_refused_lem, taken_refused, has_room, taken_past, split_late, best_room, split_whole}
use Rattle.split.proofs.split_within.Goals as goal

pub returns-in-Err : goal.returns-in-Err
returns-in-Err c =
    let s = stopped (rw c.places.ensures at c.check_split.ensures) c.in-Err.is in
    record { does = split_refused_lem c.args.book.count c.args.settings c.args.limit (held c.args.columns) (length c.args.sums.now) c.args.memory.scratch.now c.args.memory.before.now c.args.memory.after.now (s.0, ap (λ e. Err e) s.1); taken = taken_refused c.args.book.count c.args.settings c.args.limit (held c.args.columns) (length c.args.sums.now) c.args.memory.scratch.now c.args.memory.before.now c.args.memory.after.now s.0 }

pub curve-rows-requires : goal.curve-rows-requires
curve-rows-requires c =
    let w = has_room c.args.book.count c.args.settings c.args.limit (held c.args.columns) (length c.args.sums.now) c.args.memory.scratch.now c.args.memory.before.now c.args.memory.after.now (let_by (rw c.places.ensures at c.check_split.ensures) c.in_default.not-Err) in
    (w.room.within.0, w.room.within.1.0)

pub search-s-requires : goal.search-s-requires
search-s-requires c =
    let w = has_room c.args.book.count c.args.settings c.args.limit (held c.args.columns) (length c.args.sums.now) c.args.memory.scratch.now c.args.memory.before.now c.args.memory.after.now (let_by (rw c.places.ensures at c.check_split.ensures) c.in_default.not-Err) in
    rw c.curve-rows.ensures.long (c.curve-rows.ensures.curved, w.room.enough.1.0, w.four, w.room.most, w.most)

pub clear-requires : goal.clear-requires
clear-requires c =
    let w = has_room c.args.book.count c.args.settings c.args.limit (held c.args.columns) (length c.args.sums.now) c.args.memory.scratch.now c.args.memory.before.now c.args.memory.after.now (let_by (rw c.places.ensures at c.check_split.ensures) c.in_default.not-Err) in
    omega (arith, w.room.enough.1.0, (rw c.curve-rows.ensures.long at c.search-s.ensures).within.long)

pub returns-in-Err-best : goal.returns-in-Err-best
returns-in-Err-best c =
    let past = let_by (rw c.places.ensures at c.check_split.ensures) c.in_default.not-Err in
    let w = has_room c.args.book.count c.args.settings c.args.limit (held c.args.columns) (length c.args.sums.now) c.args.memory.scratch.now c.args.memory.before.now c.args.memory.after.now past in
    let rows = curve_weighted c.args.book.count c.args.columns.xs.now c.args.columns.xs.now c.args.columns.ys.now c.args.columns.ws.now w.room.within.1.1.0 in
    record {
      does = split_late c.args.book.count c.args.settings c.args.limit (held c.args.columns) (length c.args.sums.now) c.args.memory.scratch.now c.args.memory.before.now c.args.memory.after.now past _ rows c.search-s.result _ _ (rw (c.curve-rows.ensures.weighted, c.curve-rows.ensures.long) at c.search-s.ensures) c.clear.ensures _ c.in-Err-best.is refl;
      taken = taken_past c.args.book.count c.args.settings c.args.limit (held c.args.columns) (length c.args.sums.now) c.args.memory.scratch.now c.args.memory.before.now c.args.memory.after.now past _ rows c.search-s.result _ _ (rw (c.curve-rows.ensures.weighted, c.curve-rows.ensures.long) at c.search-s.ensures) c.clear.ensures;
    }

pub write-requires : goal.write-requires
write-requires c =
    let past = let_by (rw c.places.ensures at c.check_split.ensures) c.in_default.not-Err in
    let w = has_room c.args.book.count c.args.settings c.args.limit (held c.args.columns) (length c.args.sums.now) c.args.memory.scratch.now c.args.memory.before.now c.args.memory.after.now past in
    let rows = curve_weighted c.args.book.count c.args.columns.xs.now c.args.columns.xs.now c.args.columns.ys.now c.args.columns.ws.now w.room.within.1.1.0 in
    let f = best_room c.args.book.count c.args.settings c.args.limit (held c.args.columns) (length c.args.sums.now) c.args.memory.scratch.now c.args.memory.before.now c.args.memory.after.now past _ rows c.search-s.result _ _ (rw (c.curve-rows.ensures.weighted, c.curve-rows.ensures.long) at c.search-s.ensures) c.clear.ensures _ c.in-Ok.is (length_weighted_at Curve c.args.columns.xs.now c.args.columns.xs.now c.args.columns.ys.now c.args.columns.ws.now c.args.book.count) in
    (omega (arith, f.place, c.curve-rows.ensures.long), f.before, f.after, w.room.enough.1.1.0, w.room.enough.1.1.1.0)

pub returns : goal.returns
returns c =
    let past = let_by (rw c.places.ensures at c.check_split.ensures) c.in_default.not-Err in
    let w = has_room c.args.book.count c.args.settings c.args.limit (held c.args.columns) (length c.args.sums.now) c.args.memory.scratch.now c.args.memory.before.now c.args.memory.after.now past in
    let rows = curve_weighted c.args.book.count c.args.columns.xs.now c.args.columns.xs.now c.args.columns.ys.now c.args.columns.ws.now w.room.within.1.1.0 in
    record {
      does = split_whole c.args.book.count c.args.settings c.args.limit (held c.args.columns) (length c.args.sums.now) c.args.memory.scratch.now c.args.memory.before.now c.args.memory.after.now past _ rows c.search-s.result _ _ (rw (c.curve-rows.ensures.weighted, c.curve-rows.ensures.long) at c.search-s.ensures) c.clear.ensures _ c.in-Ok.is (length_weighted_at Curve c.args.columns.xs.now c.args.columns.xs.now c.args.columns.ys.now c.args.columns.ws.now c.args.book.count) _ _ (rw c.curve-rows.ensures.weighted at c.write.ensures.earlier) (rw c.curve-rows.ensures.weighted at c.write.ensures.later);
      taken = taken_past c.args.book.count c.args.settings c.args.limit (held c.args.columns) (length c.args.sums.now) c.args.memory.scratch.now c.args.memory.before.now c.args.memory.after.now past _ rows c.search-s.result _ _ (rw (c.curve-rows.ensures.weighted, c.curve-rows.ensures.long) at c.search-s.ensures) c.clear.ensures;
    }
