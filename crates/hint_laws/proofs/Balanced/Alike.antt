-- Lists with the same outline count the same for the record above them, and so for the whole tree.
-- Assumes nothing.
use Rattle.std.proofs.Math.Path.{◌≡◌, refl, sym, ap, ap₂}
use Rattle.std.proofs.Common.{◌∙◌, ⊎_elim}
use Rattle.std.specs.Prelude.{if◌then◌else◌, Bool, ◌&&◌, ◌⊎◌}
use Rattle.std.proofs.Math.Bool.{true, false, not}
use mathlib.Core.List.{List, [], ◌∷◌, ◌++◌}
use Prim.Native.Nat.{ℕ, zero, suc, ◌+◌}
use native.Mathlib.Omega.{arith}
use Rattle.std.proofs.Math.Dec.{eqb, ltb}
use Rattle.meaning.specs.Numbers.Tag
use Rattle.meaning.specs.Tree.{one_of, Head, Forest, none, more, one, count, row, ◌&◌}
use Rattle.meaning.specs.File.{record_numbers}
use Rattle.meaning.specs.Grammar.{expressions}
use Rattle.meaning.specs.Renumbering.{with_scope}
use Rattle.meaning.specs.Statements.{is_using}
use Rattle.meaning.specs.ForOf.{binds_identifier}
use Rattle.meaning.specs.Walk.{Crumb, crumb, plug}
use Rattle.spec_laws.specs.Tags.{Seen, other, here, there, seen, clash, or_none}
use Rattle.hint_laws.specs.Hints.{
  names_of,
  of_initializer,
  over_declarators,
  is_expression,
  shown,
  wanted,
  letter_for,
  usings_in,
  for_of_using,
  asks_for,
  called,
  calls_in,
}
use Rattle.hint_laws.proofs.Outline.{Neutral, Same, same_&, same_below}
use Rattle.hint_laws.specs.Balanced.Balance.{letter_in, waits, done_in, gives, balance_of}
use Rattle.hint_laws.proofs.Balanced.Sums.{worth, balance_more, balance_&}

-- ---- neutral heads

-- their tags, one by one
record Tagless (t : ℕ) : Type 0 where
  five : eqb t Tag.Declaration ≡ false
  six : eqb t Tag.Declarator ≡ false
  name : eqb t Tag.Name ≡ false
  expression : is_expression t ≡ false
  call : eqb t Tag.Call ≡ false

no_call : {t : ℕ} → Seen (Tag.Call ∷ []) t → one_of expressions t ≡ false → eqb t Tag.Call ≡ false
no_call here e = absurd (clash e refl)
no_call (there n other) e = n

tagless : (h : Head) → Neutral h → Tagless h.tag
tagless h n =
    let t = h.tag in
    let n₅ = or_none (eqb t Tag.Declaration) (one_of (Tag.Declarator ∷ Tag.Name ∷ expressions) t) n in
    let n₆ = or_none (eqb t Tag.Declarator) (one_of (Tag.Name ∷ expressions) t) n₅.1 in
    let n₂₆ = or_none (eqb t Tag.Name) (one_of expressions t) n₆.1 in
    record { five = n₅.0; six = n₆.0; name = n₂₆.0; expression = n₂₆.1; call = no_call (seen (Tag.Call ∷ []) t) n₂₆.1 }

pub neutral_using : (h : Head) → Neutral h → is_using h ≡ false
unfolding is_using
neutral_using h n = let e = (tagless h n).five in rw e

-- what `Same` says of two records
abbrev pub Alike : Head → Forest → Head → Forest → Type 0
Alike h k h' k' = ((h ≡ h') × Same k k') ⊎ (Neutral h × Neutral h')

-- a value that a record has unless a test of its head fails, as it does for neutral ones
alike_value : (test : Head → Bool) (v : Head → Forest → ℕ) (h h' : Head) (k k' : Forest)
    → ((x : Head) → Neutral x → test x ≡ false)
    → ((x : Head) → Same k k' → v x k ≡ v x k')
    → Alike h k h' k' → (if test h then v h k else 0) ≡ (if test h' then v h' k' else 0)
alike_value test v h h' k k' p q a =
    ⊎_elim
    (λ e. ap (λ (n : ℕ). if test h then n else 0) (q h e.1) ∙ ap (λ (x : Head). if test x then v x k' else 0) e.0)
    (λ n. let m = p h n.0 in let m' = p h' n.1 in rw (m, m'))
    a

-- ---- lists

names_same : (m : ℕ) (f g : Forest) → Same f g → names_of m f ≡ names_of m g
unfolding Same names_of
names_same zero f g s = refl
names_same (suc m) none none s = refl
names_same (suc m) none (more h' k' r') s = absurd s
names_same (suc m) (more h k r) none s = absurd s
names_same (suc m) (more h k r) (more h' k' r') s =
    ap₂ (λ (y : ℕ) (ys : List ℕ). y ∷ ys)
    (alike_value (λ x. eqb x.tag Tag.Name) (λ x _. x.a) h h' k k' (λ x n. (tagless x n).name) (λ x _. refl) s.0)
    (names_same m r r' s.1)

count_same : (f g : Forest) → Same f g → count f ≡ count g
unfolding Same count
count_same none none s = refl
count_same none (more h' k' r') s = absurd s
count_same (more h k r) none s = absurd s
count_same (more h k r) (more h' k' r') s = ap suc (count_same r r' s.1)

-- the expressions are written alike
shown_same : (f g : Forest) → Same f g → shown f ≡ shown g
unfolding Same shown
shown_same none none s = refl
shown_same none (more h' k' r') s = absurd s
shown_same (more h k r) none s = absurd s
shown_same (more h k r) (more h' k' r') s =
    ap₂ ◌++◌
    (⊎_elim
    (λ e.
    ap₂
    (λ (n : ℕ) (ns : List ℕ). if is_expression h.tag then h.tag ∷ (record_numbers (row (with_scope h 0) n) ++ ns) else [])
    (count_same k k' e.1) (shown_same k k' e.1)
    ∙ ap (λ (x : Head). if is_expression x.tag then x.tag ∷ (record_numbers (row (with_scope x 0) (count k')) ++ shown k') else []) e.0)
    (λ n. let m = (tagless h n.0).expression in let m' = (tagless h' n.1).expression in rw (m, m'))
    s.0)
    (shown_same r r' s.1)

-- a value that initializers with the same outline share
abbrev Blind : (Head → Forest → ℕ) → Type 0
Blind v = (h h' : Head) (k k' : Forest) → Alike h k h' k' → v h k ≡ v h' k'

initializer_same : (v : Head → Forest → ℕ) (m : ℕ) (f g : Forest) → Blind v → Same f g → of_initializer v m f ≡ of_initializer v m g
unfolding Same of_initializer
initializer_same v zero none none b s = refl
initializer_same v (suc m) none none b s = refl
initializer_same v m none (more h' k' r') b s = absurd s
initializer_same v m (more h k r) none b s = absurd s
initializer_same v zero (more h k r) (more h' k' r') b s = b h h' k k' s.0
initializer_same v (suc m) (more h k r) (more h' k' r') b s = initializer_same v m r r' b s.1

declarators_same : (v : List ℕ → Head → Forest → ℕ) (f g : Forest) → ((names : List ℕ) → Blind (v names)) → Same f g
    → over_declarators v f ≡ over_declarators v g
unfolding Same over_declarators
declarators_same v none none b s = refl
declarators_same v none (more h' k' r') b s = absurd s
declarators_same v (more h k r) none b s = absurd s
declarators_same v (more h k r) (more h' k' r') b s =
    ap₂ ◌+◌
    (alike_value (λ x. eqb x.tag Tag.Declarator) (λ x kids. of_initializer (v (names_of x.b kids)) x.b kids) h h' k k' (λ x n. (tagless x n).six)
    (λ x e.
    ap (λ (names : List ℕ). of_initializer (v names) x.b k) (names_same x.b k k' e)
    ∙ initializer_same (v (names_of x.b k')) x.b k k' (b (names_of x.b k')) e)
    s.0)
    (declarators_same v r r' b s.1)

and_if : (a b : Bool) (n : ℕ) → (if a && b then n else 0) ≡ (if a then if b then n else 0 else 0)
and_if true b n = refl
and_if false b n = refl

module _ (w : List ℕ → List ℕ → ℕ → ℕ) (read : ℕ) where
  called_blind : (names : List ℕ) → Blind (called w read names)
  unfolding called
  called_blind names h h' k k' a =
      alike_value (λ x. eqb x.tag Tag.Call && ltb read x.b) (λ x kids. w names (shown kids) x.a) h h' k k'
      (λ x n. let m = (tagless x n).call in rw m)
      (λ x s. ap (λ (e : List ℕ). w names e x.a) (shown_same k k' s))
      a

  wanted_blind : (letter : ℕ) (names : List ℕ) → Blind (wanted w letter names)
  unfolding Same
  wanted_blind letter names h h' k k' a = ap (λ (e : List ℕ). w names e letter) (shown_same (one h k) (one h' k') (a, tt))

  usings_same : (letter : Head → ℕ) (f g : Forest) → Same f g → usings_in w letter f ≡ usings_in w letter g
  unfolding Same usings_in
  usings_same letter none none s = refl
  usings_same letter none (more h' k' r') s = absurd s
  usings_same letter (more h k r) none s = absurd s
  usings_same letter (more h k r) (more h' k' r') s =
      ap₂ ◌+◌
      (alike_value is_using (λ x kids. over_declarators (wanted w (letter x)) kids) h h' k k' neutral_using
      (λ x e. declarators_same (wanted w (letter x)) k k' (wanted_blind (letter x)) e)
      s.0)
      (usings_same letter r r' s.1)

  calls_same : (f g : Forest) → Same f g → calls_in w read f ≡ calls_in w read g
  unfolding Same calls_in
  calls_same none none s = refl
  calls_same none (more h' k' r') s = absurd s
  calls_same (more h k r) none s = absurd s
  calls_same (more h k r) (more h' k' r') s =
      ap₂ ◌+◌
      (alike_value (λ x. eqb x.tag Tag.Declaration) (λ x kids. over_declarators (called w read) kids) h h' k k' (λ x n. (tagless x n).five)
      (λ x e. declarators_same (called w read) k k' called_blind e)
      s.0)
      (calls_same r r' s.1)

  done_same : (f g : Forest) → Same f g → done_in w read f ≡ done_in w read g
  unfolding Same done_in
  done_same none none s = refl
  done_same none (more h' k' r') s = absurd s
  done_same (more h k r) none s = absurd s
  done_same (more h k r) (more h' k' r') s =
      ap₂ ◌+◌
      (alike_value (λ x. eqb x.tag Tag.Declaration && not (is_using x)) (λ x kids. over_declarators (called w read) kids) h h' k k'
      (λ x n. let e = (tagless x n).five in rw e)
      (λ x e. declarators_same (called w read) k k' called_blind e)
      s.0)
      (done_same r r' s.1)

  -- ---- a ForOf

  -- what the Declarators of its using ask for
  unfoldable pub held_by : ℕ → Forest → ℕ
  held_by letter none = 0
  held_by letter (more d kids s) = if eqb d.tag Tag.Declarator && eqb d.a 0 then w (names_of 1 kids) [] letter else 0

  held_same : (letter : ℕ) (f g : Forest) → Same f g → held_by letter f ≡ held_by letter g
  unfolding Same held_by
  held_same letter none none s = refl
  held_same letter none (more h' k' r') s = absurd s
  held_same letter (more h k r) none s = absurd s
  held_same letter (more h k r) (more h' k' r') s =
      alike_value (λ x. eqb x.tag Tag.Declarator && eqb x.a 0) (λ _ kids. w (names_of 1 kids) [] letter) h h' k k'
      (λ x n. let e = (tagless x n).six in rw e)
      (λ x e. ap (λ (names : List ℕ). w names [] letter) (names_same 1 k k' e))
      s.0

  of_two : (h₁ : Head) (k₁ : Forest) (h₂ : Head) (k₂ : Forest) → for_of_using w (more h₁ k₁ (more h₂ k₂ none)) ≡ 0
  unfolding for_of_using
  of_two h₁ none h₂ k₂ = refl
  of_two h₁ (more d kids s) h₂ k₂ = refl

  pub of_three : (h₁ : Head) (k₁ : Forest) (h₂ : Head) (k₂ : Forest) (h₃ : Head) (k₃ r : Forest)
      → for_of_using w (more h₁ k₁ (more h₂ k₂ (more h₃ k₃ r))) ≡ (if is_using h₁ then held_by (letter_for h₁) k₁ else 0)
  unfolding for_of_using held_by binds_identifier
  of_three h₁ none h₂ k₂ h₃ k₃ r = no_value (is_using h₁)
    where
      no_value : (b : Bool) → ◌≡◌ {A = ℕ} 0 (if b then 0 else 0)
      no_value true = refl
      no_value false = refl
  of_three h₁ (more d kids s) h₂ k₂ h₃ k₃ r = and_if (is_using h₁) (eqb d.tag Tag.Declarator && eqb d.a 0) (w (names_of 1 kids) [] (letter_for h₁))

  for_of_same : (f g : Forest) → Same f g → for_of_using w f ≡ for_of_using w g
  unfolding Same for_of_using
  for_of_same none none s = refl
  for_of_same none (more _ _ _) s = absurd s
  for_of_same (more _ _ _) none s = absurd s
  for_of_same (more _ _ none) (more _ _ none) s = refl
  for_of_same (more _ _ none) (more _ _ (more _ _ _)) s = absurd s.1
  for_of_same (more _ _ (more _ _ _)) (more _ _ none) s = absurd s.1
  for_of_same (more h₁ k₁ (more h₂ k₂ none)) (more h₁' k₁' (more h₂' k₂' none)) s = of_two h₁ k₁ h₂ k₂ ∙ sym (of_two h₁' k₁' h₂' k₂')
  for_of_same (more _ _ (more _ _ none)) (more _ _ (more _ _ (more _ _ _))) s = absurd s.1.1
  for_of_same (more _ _ (more _ _ (more _ _ _))) (more _ _ (more _ _ none)) s = absurd s.1.1
  for_of_same (more h₁ k₁ (more h₂ k₂ (more h₃ k₃ r))) (more h₁' k₁' (more h₂' k₂' (more h₃' k₃' r'))) s =
      of_three h₁ k₁ h₂ k₂ h₃ k₃ r
      ∙ alike_value is_using (λ x kids. held_by (letter_for x) kids) h₁ h₁' k₁ k₁' neutral_using
      (λ x e. held_same (letter_for x) k₁ k₁' e)
      s.0
      ∙ sym (of_three h₁' k₁' h₂' k₂' h₃' k₃' r')

  -- ---- the record above, and all that stands around it

  worth_same : (t : ℕ) (f g : Forest) → Same f g → worth w read t f ≡ worth w read t g
  unfolding worth waits gives asks_for
  worth_same t f g s =
      rw (usings_same (letter_in t) f g s, for_of_same f g s, done_same f g s, calls_same f g s)

  pub plug_same : (p : List Crumb) (f g : Forest) → Same f g → balance_of w read f ≡ balance_of w read g
      → balance_of w read (plug f p) ≡ balance_of w read (plug g p)
  unfolding plug
  plug_same [] f g s e = e
  plug_same (crumb h d r ∷ p) f g s e =
      plug_same p (d & more h f r) (d & more h g r) (same_& d (more h f r) (more h g r) (same_below h r f g s))
      (omega (
        arith,
        balance_& w read d (more h f r),
        balance_& w read d (more h g r),
        balance_more w read h f r,
        balance_more w read h g r,
        worth_same h.tag f g s,
      ))
