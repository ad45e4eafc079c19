-- `decimal::digits::and_digit` meets its contract.
use Rattle.std.proofs.Common.{rules, tests}
use Rattle.decimal.specs.Digits.{is_digit}
use Rattle.decimal.proofs.digits.and_digit.Goals as goal

pub returns : goal.returns
unfolding is_digit
returns c = search (rules, tests)
