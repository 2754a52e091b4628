-- `notation::put_decimal` meets its contract. Assumes nothing.
use Rattle.notation.proofs.+put_decimal.Given as goal

-- the digits that may stand
abbrev pub decreases-put_decimal : goal.decreases-put_decimal
decreases-put_decimal l = l.most
