-- Demands of records beside each other, around a place, and of records that get another scope above them.
-- Assumes nothing.
use Rattle.std.specs.Prelude.{if◌then◌else◌, ◌≡◌, refl, Bool, true, false, not, List, [], ◌∷◌, ℕ, ◌+◌, eqb}
use Rattle.std.proofs.Common.{arith, eqb-true}
use Rattle.meaning.specs.Numbers.Tag
use Rattle.meaning.specs.Tree.{Head, hd, Forest, none, more, one, ◌&◌}
use Rattle.meaning.specs.Grammar.{scope_of}
use Rattle.meaning.specs.Scoping.{Store, create_child_scope, change_scope_parent, move_scopes, insert_scope_below}
use Rattle.meaning.specs.Walk.{Crumb, crumb, current_scope, plug}
use Rattle.spec_laws.specs.Tags.{Seen, other, here, there, seen, clash}
use Rattle.meaning.specs.Agreement.{names_scope}
use Rattle.agreement_laws.specs.Weights.{Weight, demanded, Offers}
use Rattle.agreement_laws.specs.Rows.{never_0, child_offers, parent_offers}

-- ---- beside each other, and around

pub demanded_none : (w : Weight) (cur : ℕ) → demanded w cur none ≡ 0
unfolding demanded
demanded_none w cur = refl

pub demanded_more : (w : Weight) (cur : ℕ) (h : Head) (k r : Forest) → demanded w cur (more h k r) ≡ demanded w cur (one h k) + demanded w cur r
unfolding demanded
demanded_more w cur h k r = omega arith

pub demanded_& : (w : Weight) (cur : ℕ) (f g : Forest) → demanded w cur (f & g) ≡ demanded w cur f + demanded w cur g
unfolding demanded ◌&◌
demanded_& w cur none g = omega arith
demanded_& w cur (more h k r) g = omega (arith, demanded_& w cur r g)

-- by the open records and what stands beside them
unfoldable pub around : Weight → List Crumb → ℕ
around w [] = 0
around w (crumb h d r ∷ p) =
    (if names_scope h then w (scope_of h) (current_scope p) else 0)
    + (demanded w (current_scope p) d + (demanded w (current_scope p) r + around w p))

pub demanded_plug : (w : Weight) (p : List Crumb) (f : Forest) → demanded w 0 (plug f p) ≡ demanded w (current_scope p) f + around w p
unfolding plug current_scope around demanded
demanded_plug w [] f = omega arith
demanded_plug w (crumb h d r ∷ p) f =
    omega (arith, demanded_plug w p (d & more h f r), demanded_& w (current_scope p) d (more h f r))

-- ---- the outermost scopes

-- what the records that name a row, and stand in no other that does, demand of their rows below the scope p
unfoldable pub tops : Weight → ℕ → Forest → ℕ
tops w p none = 0
tops w p (more h k r) =
    (if names_scope h then w (scope_of h) p else 0) + ((if eqb (scope_of h) 0 then tops w p k else 0) + tops w p r)

-- what is demanded in them
unfoldable pub inner : Weight → Forest → ℕ
inner w none = 0
inner w (more h k r) = (if eqb (scope_of h) 0 then inner w k else demanded w (scope_of h) k) + inner w r

by_scope : (b : Bool) (w : Weight) (cur s : ℕ) (k : Forest) → demanded w cur k ≡ tops w cur k + inner w k
    → demanded w (if b then cur else s) k ≡ (if b then tops w cur k else 0) + (if b then inner w k else demanded w s k)
by_scope true w cur s k e = e
by_scope false w cur s k e = omega arith

-- ONLY THE OUTERMOST SCOPES SEE WHAT STANDS ABOVE THEM.
pub demanded_tops : (w : Weight) (cur : ℕ) (f : Forest) → demanded w cur f ≡ tops w cur f + inner w f
unfolding demanded tops inner
demanded_tops w cur none = refl
demanded_tops w cur (more h k r) =
    omega (arith, by_scope (eqb (scope_of h) 0) w cur (scope_of h) k (demanded_tops w cur k), demanded_tops w cur r)

-- ---- a record that names no row has none

-- those that may name one
abbrev pub scope_tags : List ℕ
scope_tags =
    Tag.Program ∷ Tag.Block ∷ Tag.For ∷ Tag.ForOf ∷ Tag.Switch ∷ Tag.Catch ∷ Tag.Function ∷ Tag.Class ∷ Tag.StaticBlock ∷ Tag.Plain ∷ []

nameless : {t : ℕ} (a b c : ℕ) → Seen scope_tags t → names_scope (hd t a b c) ≡ false
    → eqb (scope_of (hd t a b c)) 0 ≡ true
unfolding names_scope scope_of
nameless a b c here e = absurd (clash e refl)
nameless a b c (there e₁ here) e = absurd (clash e refl)
nameless a b c (there e₁ (there e₂ here)) e = absurd (clash e refl)
nameless a b c (there e₁ (there e₂ (there e₇ here))) e = absurd (clash e refl)
nameless a b c (there e₁ (there e₂ (there e₇ (there e₈ here)))) e = absurd (clash e refl)
nameless a b c (there e₁ (there e₂ (there e₇ (there e₈ (there e₉ here))))) e = absurd (clash e refl)
nameless a b c (there e₁ (there e₂ (there e₇ (there e₈ (there e₉ (there e₁₂ here)))))) e = absurd (clash e refl)
nameless a b c (there e₁ (there e₂ (there e₇ (there e₈ (there e₉ (there e₁₂ (there e₁₃ here))))))) e = absurd (clash e refl)
nameless a b c (there e₁ (there e₂ (there e₇ (there e₈ (there e₉ (there e₁₂ (there e₁₃ (there e₁₅ here)))))))) e = absurd (clash e refl)
nameless a b c (there e₁ (there e₂ (there e₇ (there e₈ (there e₉ (there e₁₂ (there e₁₃ (there e₁₅ (there e₁₆ here))))))))) e =
    not_zero (eqb a 0) e
  where
    not_zero : (z : Bool) → not z ≡ false → z ≡ true
    not_zero true _ = refl
    not_zero false x = absurd (clash x refl)
nameless a b c (there e₁ (there e₂ (there e₇ (there e₈ (there e₉ (there e₁₂ (there e₁₃ (there e₁₅ (there e₁₆ (there e₃ other)))))))))) e =
    rw (e₁, e₂, e₃, e₇, e₈, e₉, e₁₂, e₁₆, e₁₃, e₁₅)

pub no_scope_lem : (h : Head) → names_scope h ≡ false → eqb (scope_of h) 0 ≡ true
no_scope_lem h e = nameless h.a h.b h.c (seen scope_tags h.tag) e

-- ---- moving

-- by the tests whether the record names a row, and whether the row has a number
move_one_lem : (m z : Bool) (s q p : ℕ) (k : Forest) (st : Store) (rest : Weight → ℕ) → eqb s 0 ≡ z → (m ≡ false → z ≡ true)
    → ((R : Weight → ℕ) → Offers st.scopes (λ w. tops w q k + R w) → Offers (move_scopes k p st).1.scopes (λ w. tops w p k + R w))
    → Offers st.scopes (λ w. (if m then w s q else 0) + ((if z then tops w q k else 0) + rest w))
    → Offers ((if z then move_scopes k p else change_scope_parent s p) st).1.scopes
    (λ w. (if m then w s p else 0) + ((if z then tops w p k else 0) + rest w))
move_one_lem true true s q p k st rest e c i o =
    absurd (never_0 st.scopes s q (λ w. tops w q k + rest w) o (eqb-true s 0 e))
move_one_lem true false s q p k st rest e c i o = parent_offers s q p st (λ w. 0 + rest w) o
move_one_lem false true s q p k st rest e c i o =
    λ w. omega (arith, i (λ v. rest v) (λ v. omega (arith, o v)) w)
move_one_lem false false s q p k st rest e c i o = absurd (clash refl (c refl))

-- THE OUTERMOST SCOPES OF SOME RECORDS GET A PARENT, whatever else the rows offer.
pub move_offers : (f : Forest) (q p : ℕ) (st : Store) (R : Weight → ℕ) → Offers st.scopes (λ w. tops w q f + R w)
    → Offers (move_scopes f p st).1.scopes (λ w. tops w p f + R w)
unfolding move_scopes tops
move_offers none q p st R o = o
move_offers (more h k r) q p st R o =
    let s = scope_of h in
    let z = eqb s 0 in
    let one' = (if z then move_scopes k p else change_scope_parent s p) st in
    let first : Offers one'.1.scopes (λ w. (if names_scope h then w s p else 0) + ((if z then tops w p k else 0) + (tops w q r + R w))) =
    move_one_lem (names_scope h) z s q p k st (λ w. tops w q r + R w) refl (no_scope_lem h) (λ R' o'. move_offers k q p st R' o')
    (λ w. omega (arith, o w))
    in
    let second =
    move_offers r q p one'.1 (λ w. (if names_scope h then w s p else 0) + ((if z then tops w p k else 0) + R w))
    (λ w. omega (arith, first w))
    in
    λ w. omega (arith, second w)

-- A NEW SCOPE BETWEEN THE SCOPE s AND SOME RECORDS, which stood below the scope q
pub below_offers : (s q : ℕ) (f : Forest) (st : Store) (R : Weight → ℕ) → Offers st.scopes (λ w. demanded w q f + R w)
    → let new = (insert_scope_below s f st).0 in
    Offers (insert_scope_below s f st).1.scopes (λ w. w new s + (demanded w new f + R w))
unfolding insert_scope_below
below_offers s q f st R o =
    let made = create_child_scope s 0 st in
    let new = made.0 in
    let o₁ = child_offers s 0 st (λ w. demanded w q f + R w) o in
    let o₂ =
    move_offers f q new made.1 (λ w. w new s + (inner w f + R w))
    (λ w. omega (arith, o₁ w, demanded_tops w q f))
    in
    λ w. omega (arith, o₂ w, demanded_tops w new f)
