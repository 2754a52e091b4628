-- Places that do not take a tag: no record there has it.
-- Assumes nothing.
use Rattle.std.specs.Prelude.{◌≡◌, refl, false, ℕ, suc, eqb}
use Rattle.meaning.specs.Numbers.Tag
use Rattle.meaning.specs.Tree.{Head, Forest, none, more}
use Rattle.meaning.specs.Grammar.{place_of}
use Rattle.meaning.specs.declared.Place.{Place}
use Rattle.meaning.specs.declared.Field.{Field}
use Rattle.parsing.specs.Places.{Bars, bars_tag, below_bars_12}
use Rattle.charge_laws.proofs.Totals.Roles.{Lacks}
use Rattle.charge_laws.proofs.Fit.Placed.{ReadAs, same_tag, Placed}

pub barred : {syms : ℕ} {p : Place} {x : Field} {h : Head} {k : Forest} (n : ℕ) → Bars n p → ReadAs syms p x h k → eqb h.tag n ≡ false
barred {p = p} {x = x} n bars q = rw (same_tag q) (bars_tag (eqb x.tag n) p x.tag n refl q.taken bars)

pub lacks : (syms : ℕ) (f : Forest) (place : ℕ → Place) (i : ℕ) → ((j : ℕ) → Bars Tag.Catch (place j)) → Placed syms place i f → Lacks Tag.Catch f
lacks syms none place i bars q = tt
lacks syms (more h k r) place i bars q = (barred 12 (bars i) q.1, lacks syms r place (suc i) bars q.3)

-- the children of what is no Try
pub no_catch : {syms : ℕ} {p : Place} {x : Field} {h : Head} {k : Forest} → ReadAs syms p x h k → Placed syms (place_of p x) 0 k
    → eqb h.tag Tag.Try ≡ false → Lacks Tag.Catch k
no_catch {syms} {p} {x} {k = k} q r e = lacks syms k (place_of p x) 0 (below_bars_12 p x (rw (same_tag q) at e)) r
