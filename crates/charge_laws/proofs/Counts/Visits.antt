-- The visits to one record, and those beside each other.
-- Assumes nothing.
use Rattle.std.specs.Prelude.{◌≡◌, Bool, false}
use Rattle.std.proofs.Math.Path.{refl, sym, ap}
use Rattle.std.proofs.Common.{◌∙◌}
use mathlib.Core.List.{List, [], ◌∷◌, ◌++◌, append_assoc}
use Rattle.meaning.specs.Tree.{Head, Forest, none, more, ◌&◌}
use Rattle.meaning.specs.File.{Symbol}
use Rattle.meaning.specs.Walk.{Act, keep, act_if}
use Rattle.meaning.specs.Charges.{Line}
use Rattle.charge_laws.specs.VisitCharges.{standing, moved, skipped, next, Visits, visits_as, visits_standing, visits_of, program_visits, visits_in}

-- a list with none behind it
pub ++-nil : (xs : List (List Line)) → xs ++ [] ≡ xs
++-nil [] = refl
++-nil (x ∷ xs) = ap (◌∷◌ x) (++-nil xs)

pub &-none : (f : Forest) → f & none ≡ f
unfolding ◌&◌
&-none none = refl
&-none (more h k r) = ap (more h k) (&-none r)

pub &-assoc : (f g h : Forest) → (f & g) & h ≡ f & (g & h)
unfolding ◌&◌
&-assoc none g h = refl
&-assoc (more x k r) g h = ap (more x k) (&-assoc r g h)

five : (a b c d e x : List (List Line)) → (a ++ (b ++ (c ++ (d ++ e)))) ++ x ≡ a ++ (b ++ (c ++ (d ++ (e ++ x))))
five a b c d e x = simp append_assoc

module _ (ys : List Symbol) where
  -- the visits to a record, and then others
  abbrev pub spread : Visits → Forest → List (List Line) → List (List Line)
  spread v k rest =
      v.before
      ++ (visits_in ys k v.inside
      ++ (program_visits ys v.again k (λ _. visits_in ys k moved)
      ++ (v.behind
      ++ rest)))

  pub spread_++ : (v : Visits) (k : Forest) (xs zs : List (List Line)) → spread v k xs ++ zs ≡ spread v k (xs ++ zs)
  spread_++ v k xs zs =
      five v.before (visits_in ys k v.inside) (program_visits ys v.again k (λ _. visits_in ys k moved)) v.behind xs zs

  pub visits_& : (f g : Forest) → visits_in ys (f & g) standing ≡ visits_in ys f standing ++ visits_in ys g standing
  unfolding visits_in visits_of next ◌&◌
  visits_& none g = refl
  visits_& (more h k r) g =
      ap (λ (v : List (List Line)). spread (visits_standing ys h k) k v) (visits_& r g)
      ∙ sym (spread_++ (visits_standing ys h k) k (visits_in ys r standing) (visits_in ys g standing))

  -- nothing is visited below what is skipped
  pub none_skipped : (f : Forest) → visits_in ys f skipped ≡ []
  unfolding visits_in visits_of next
  none_skipped none = refl
  none_skipped (more h k r) = ap (λ (v : List (List Line)). v ++ visits_in ys r skipped) (none_skipped k) ∙ none_skipped r

  -- an act whose test fails
  pub kept_if : (b : Bool) (a : Act) (h : Head) (k : Forest) (xs : List (List Line)) → b ≡ false
      → spread (visits_as (act_if b a) h k) k xs ≡ spread (visits_as keep h k) k xs
  kept_if b a h k xs e = ap (λ (c : Bool). spread (visits_as (act_if c a) h k) k xs) e
