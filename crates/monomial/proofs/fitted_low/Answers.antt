-- `monomial::fitted_low` meets its contract.
use mathlib.Core.Path.{◌≡◌, sym, subst}
use native.Mathlib.Omega.{arith}
use lib.Dec.{T}
use Rattle.monomial.proofs.Low.{none, one_term, two_terms, three_terms, four_terms}
use Rattle.monomial.proofs.fitted_low.Goals as goal

pub returns-then-n-eq0 : goal.returns-then-n-eq0
returns-then-n-eq0 c = rw c.if-n-eq0.true (none c.args.c.now c.args.x ((subst T (sym c.well_formed.1.1.0.1) tt)))

pub returns-then-n-eq1 : goal.returns-then-n-eq1
returns-then-n-eq1 c = rw c.if-n-eq1.true (one_term c.args.c.now c.args.x ((subst T (sym c.well_formed.1.1.0.1) tt)))

pub returns-then-n-eq2 : goal.returns-then-n-eq2
returns-then-n-eq2 c =
    let n = c.args.c.now in
    let x = c.args.x in
    rw c.if-n-eq2.true (two_terms n x ((subst T (sym c.well_formed.1.1.0.1) tt)) _ (one_term n x ((subst T (sym c.well_formed.1.1.0.1) tt))))

pub returns-then-n-eq3 : goal.returns-then-n-eq3
returns-then-n-eq3 c =
    let n = c.args.c.now in
    let x = c.args.x in
    rw c.if-n-eq3.true (three_terms n x ((subst T (sym c.well_formed.1.1.0.1) tt)) _ (two_terms n x ((subst T (sym c.well_formed.1.1.0.1) tt)) _ (one_term n x ((subst T (sym c.well_formed.1.1.0.1) tt)))))

pub returns : goal.returns
returns c =
    let n = c.args.c.now in
    let x = c.args.x in
    let four : c.args.k.0 ≡ 4 = omega arith in
    rw four (four_terms n x ((subst T (sym c.well_formed.1.1.0.1) tt)) _ (three_terms n x ((subst T (sym c.well_formed.1.1.0.1) tt)) _ (two_terms n x ((subst T (sym c.well_formed.1.1.0.1) tt)) _ (one_term n x ((subst T (sym c.well_formed.1.1.0.1) tt))))))
