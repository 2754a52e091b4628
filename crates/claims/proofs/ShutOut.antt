-- What the claims shut out, second part: two that rest on a definition which a must-fail edit turns.
-- Assumes nothing.
use Rattle.std.specs.Prelude.{◌≡◌}
use Rattle.std.proofs.Common.{ap, ◌∙◌, arith}
use Rattle.meaning.specs.Numbers.Tag
use Rattle.meaning.specs.Numbers.Mode
use Rattle.meaning.specs.Numbers.KnownName
use Rattle.meaning.specs.Numbers.Letter
use Rattle.meaning.specs.Reading.{read_file}
use Rattle.meaning.specs.Lowering.{Lent, lower}
use Rattle.lowering.specs.Lower.{lower_f}
use Rattle.claims.specs.Twice.{ToItself}
use Rattle.claims.specs.OneWord.{file_of}
use Rattle.claims.proofs.Claims.{lowers_to_itself}
use Rattle.claims.specs.ShutOut.{whole, hasty, honest, records_after_one, hasty_records, honest_records, zeros, small_bytes, wrote_by, whole_lowered, whole_small, whole_read, whole_lent, whole_front, whole_written, whole_first}

pub no_haste : hasty ≡ honest → ⊥
no_haste e = omega (arith, hasty_records, honest_records, ap records_after_one e)

pub whole_to_itself : ToItself lower_f whole_lowered
unfolding lower_f
whole_to_itself =
    lowers_to_itself whole (zeros 126) (zeros 15) (zeros 18) (zeros 215) whole_lowered (file_of (read_file whole_lowered)) (small_bytes whole whole_small)
    (wrote_by lower whole (zeros 126) (zeros 15) (zeros 18) (zeros 215) whole_written (ap (λ (lent : Lent). lower whole lent 215) whole_lent ∙ whole_first) whole_front)
    whole_read
