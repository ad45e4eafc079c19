-- `covariance::put_bands` meets its contract.
use mathlib.Core.Path.{◌≡◌, ap, ◌∙◌}
use Prim.Native.Nat.{ℕ, ◌<◌}
use lib.Ieee.{nan}
use lib.ListN.{length, get_or, drop}
use Rattle.loops.specs.PlaceLaws.{length_each, each_rest}
use Rattle.monomial.specs.Rows.{row_at}
use Rattle.covariance.specs.declared.Band.{Band}
use Rattle.covariance.specs.Marks.{mark, ones}
use Rattle.covariance.specs.Bands.{outlies, lower_of, upper_of, outlier_of}
use Rattle.covariance.specs.BandsFrom.{outlier_from}
use Rattle.covariance.proofs.Rows.{table_rows, each_rows, each_rows_over, band_from_lem}
use Rattle.covariance.proofs.put_bands.Goals as goal

pub returns : goal.returns
unfolding lower_of upper_of outlier_of outlier_from row_at
returns c =
    let rows = c.args.rows in
    let n = length rows.ys.now in
    let v = c.put_values.ensures in
    let e = c.put_edges.ensures in
    let band = band_from_lem c.args.k.0 c.args.c.now c.args.covariance.now c.args.spread.tolerance c.args.spread.z c.args.spread.sd rows.basis rows.xs.now rows.zs.now rows.ys.now n _ _ _ _ _ v.values_after c.requires.1 v.variances_after c.requires.2 c.put_roots.ensures in
    let o : (j : ℕ) → j < n → _ ≡ outlier_of c.args.k.0 c.args.c.now c.args.covariance.now c.args.spread.tolerance c.args.spread.z c.args.spread.sd (row_at rows.basis rows.xs.now rows.zs.now rows.ys.now j) = λ j l. ap (λ (b : Band). mark (outlies b (get_or rows.ys.now j nan))) (band j l) in
    let values_long = ap length v.values_after ∙ length_each _ n _ in
    let values_rest = ap (drop n) v.values_after ∙ each_rest _ n _ in
    let roots_long = ap length c.put_roots.ensures ∙ length_each _ n _ ∙ ap length v.variances_after ∙ length_each _ n _ in
    let roots_rest = ap (drop n) c.put_roots.ensures ∙ each_rest _ n _ ∙ ap (drop n) v.variances_after ∙ each_rest _ n _ in
    record {
      counted = e.value ∙ ap ones (table_rows _ _ _ _ _ _ _ o);
      lowers = e.lower_after ∙ each_rows_over _ _ _ _ _ _ _ (λ j l. ap (λ (b : Band). b.lower) (band j l)) _ _ values_long values_rest c.requires.1;
      uppers = e.upper_after ∙ each_rows_over _ _ _ _ _ _ _ (λ j l. ap (λ (b : Band). b.upper) (band j l)) _ _ roots_long roots_rest c.requires.2;
      bytes = e.outlier_after ∙ each_rows _ _ _ _ _ _ _ o _ c.requires.3;
    }
