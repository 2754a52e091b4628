-- What entering and leaving a record does to the visits that are left.
-- Assumes nothing.
use Rattle.std.specs.Prelude.{if◌then◌else◌, ◌≡◌, Bool, true, false, ◌||◌, ◌&&◌, ℕ, suc, ◌+◌, eqb, ltb}
use Rattle.std.proofs.Math.Path.{refl, ap}
use Rattle.std.proofs.Common.{sym, ◌∙◌, eqb-true, eq-eqb}
use mathlib.Core.List.{List, [], ◌∷◌, ◌++◌}
use Rattle.meaning.specs.Numbers.Tag
use Rattle.meaning.specs.Numbers.Kind
use Rattle.meaning.specs.Tree.{one_of, Head, hd, Forest, none, more, count, Node, node, ◌&◌}
use Rattle.meaning.specs.File.{Symbol}
use Rattle.meaning.specs.Scoping.{Store, return}
use Rattle.meaning.specs.Statements.{is_using, any_using, create_try_stmt}
use Rattle.meaning.specs.Contexts.{
  transform_block_statement,
  enter_function_body,
  exit_static_block,
  enter_try_statement,
  transform_for_statement,
  transform_switch_statement,
}
use Rattle.meaning.specs.ForOf.{binds_identifier, enter_for_of_statement}
use Rattle.meaning.specs.Program.{enter_program}
use Rattle.meaning.specs.Walk.{is_static_block, Act, switch, act_of, enter_as, leave}
use Rattle.meaning.specs.Charges.{Line, of_static_block, initializers, wraps, context_lines}
use Rattle.meaning.specs.Due.{enter_lines}
use Rattle.charge_laws.specs.VisitCharges.{standing, visits_as, visits_in}
use Rattle.charge_laws.proofs.Totals.Roles.{Lacks}
use Rattle.charge_laws.proofs.Growth.ForOf.{Named}
use Rattle.charge_laws.proofs.Growth.Items.{Exports}
use Rattle.charge_laws.specs.Growth.Chosen.{Chosen, kept, as_program, as_block, as_body, as_try, as_for, as_switch, as_insert, as_wrap}
use Rattle.charge_laws.proofs.Growth.Chosen.{chosen, at_tag, at_loop}
use Rattle.charge_laws.proofs.Growth.Enter.{NamedLeft, Proper}
use Rattle.charge_laws.proofs.Counts.Visits.{spread}
use Rattle.charge_laws.proofs.Counts.TakenUp.{Labelled}
use Rattle.charge_laws.proofs.Counts.Tries.{Opens, block_opens, body_opens, for_opens, switch_opens, try_opens}
use Rattle.charge_laws.proofs.Counts.ForOf.{insert_opens, wrap_opens}
use Rattle.charge_laws.proofs.Counts.Program.{Kinds, program_opens}

-- ---- what a record must be

-- the first of some Declarators has a child
abbrev pub Begins : Forest → Type 0
Begins none = ⊥
Begins (more h none r) = ⊥
Begins (more h (more h₁ k₁ r₁) r) = Unit {0}

-- behind a ForOf's left side, the body is no Declaration
abbrev pub Body : Forest → Type 0
Body none = Unit {0}
Body (more h k none) = Unit {0}
Body (more h₂ k₂ (more h₃ k₃ r)) = eqb h₃.tag Tag.Declaration ≡ false

-- the using of a ForOf begins with a Name, is not recorded, and has no initializer
abbrev pub Left : Forest → Type 0
Left none = Unit {0}
Left (more h k r) = (is_using h && binds_identifier k) ≡ true → Named k × Begins k × (one_of (Kind.Using ∷ Kind.AwaitUsing ∷ []) h.a ≡ true) × Body r
    × (initializers k ≡ 0)

-- The exports of a Program with a using have one child each, and its usings are not recorded; a ForOf's left side is as said; a Label
-- has one child; a Catch has no Catch among its children; a Case has usings only in a Switch that is still to be entered.
pub record FitIn (in_switch : Bool) (h : Head) (k : Forest) : Type 0 where
  pub items : eqb h.tag Tag.Program ≡ true → any_using k ≡ true → Exports k × Kinds k
  pub side : eqb h.tag Tag.ForOf ≡ true → Left k
  pub label : eqb h.tag Tag.Label ≡ true → Labelled k
  pub handler : eqb h.tag Tag.Catch ≡ true → Lacks Tag.Catch k
  pub taken : in_switch ≡ false → eqb h.tag Tag.Case ≡ true → any_using k ≡ false

abbrev pub Fit : Head → Forest → Type 0
Fit h k = FitIn false h k

named_left : (k : Forest) → Left k → NamedLeft k
named_left none p = tt
named_left (more h k r) p = λ e. (p e).0

pub proper : (h : Head) (k : Forest) → Fit h k → Proper h k
proper h k p = ((λ e u. (p.items e u).0), (λ e. named_left k (p.side e)))

-- ---- lists that count alike

abbrev pub Alike : Forest → Forest → Type 0
Alike f g = (count f ≡ count g) × (any_using f ≡ any_using g) × (wraps f ≡ wraps g) × (initializers f ≡ initializers g)

pub alike_& : (d f g : Forest) → Alike f g → Alike (d & f) (d & g)
unfolding ◌&◌ count any_using wraps initializers
alike_& none f g e = e
alike_& (more h k r) f g e =
    let i = alike_& r f g e in (
      ap suc i.0,
      ap (λ (b : Bool). is_using h || b) i.1,
      ap (λ (n : ℕ). (if is_using h then initializers k else 0) + n) i.2,
      ap (λ (n : ℕ). (if eqb h.tag Tag.Declarator && ltb h.b (count k) then 1 else 0) + n) i.3,
    )

-- a record's children change, and count alike
pub alike_below : (h : Head) (f g r : Forest) → Alike f g → Alike (more h f r) (more h g r)
unfolding count any_using wraps initializers
alike_below h f g r e = (
  refl,
  refl,
  ap (λ (n : ℕ). (if is_using h then n else 0) + wraps r) e.3,
  ap (λ (n : ℕ). (if eqb h.tag Tag.Declarator && ltb h.b n then 1 else 0) + initializers r) e.0,
)

-- neither a using nor a Declarator
abbrev Plain : Head → Type 0
Plain h = (is_using h ≡ false) × (eqb h.tag Tag.Declarator ≡ false)

alike_head : (h h' : Head) (k k' r : Forest) → Plain h → Plain h' → Alike (more h k r) (more h' k' r)
unfolding count any_using wraps initializers
alike_head h h' k k' r p q = (refl, rw (p.0, q.0), rw (p.0, q.0), rw (p.1, q.1))

-- ---- leaving a StaticBlock

-- its own charge is due behind its children
abbrev pub leave_then : Bool → Forest → List (List Line) → List (List Line)
leave_then b list xs = if b then context_lines of_static_block list ∷ xs else xs

left_if : (b : Bool) (h : Head) (k r : Forest) (st : Store) → h.tag ≡ Tag.StaticBlock
    → let e = (if b then exit_static_block h k else return (node h k)) st in
    Alike (more h k r) (more e.0.head e.0.children r)
unfolding exit_static_block is_using
left_if true h k r st e = alike_head h _ k _ r (ap (λ (t : ℕ). is_using (hd t h.a h.b h.c)) e, ap (λ (t : ℕ). eqb t Tag.Declarator) e) (refl, refl)
left_if false h k r st e = (refl, refl, refl, refl)

pub left_alike : (h : Head) (k r : Forest) (st : Store) → is_static_block h ≡ true
    → let e = leave h k st in
    Alike (more h k r) (more e.0.head e.0.children r)
unfolding leave
left_alike h k r st e = left_if (any_using k) h k r st (eqb-true h.tag Tag.StaticBlock e)

-- ---- entering

-- The visits to a record are the one that enters it, and those behind it; beside others it counts alike.
pub record Enters (ys : List Symbol) (a : Act) (h : Head) (k : Forest) (e : Node × Store) : Type 0 where
  pub visits : (xs : List (List Line))
      → spread ys (visits_as a h k) k xs
      ≡ enter_lines a h k ∷ (visits_in ys e.0.children standing ++ leave_then (is_static_block e.0.head) e.0.children xs)
  pub alike : (r : Forest) → Alike (more h k r) (more e.0.head e.0.children r)

module _ (ys : List Symbol) where
  leave_if : (b : Bool) (l : List Line) (xs : List (List Line)) → (if b then l ∷ [] else []) ++ xs ≡ (if b then l ∷ xs else xs)
  leave_if true l xs = refl
  leave_if false l xs = refl

  changed : {a : Act} {h : Head} {k : Forest} {e : Node × Store} → Opens ys a h k e → Plain h → Plain e.0.head
      → is_static_block e.0.head ≡ false → Enters ys a h k e
  changed {a} {h} {k} {e} o p q s =
      record {
        visits =
            λ xs. o xs
            ∙ ap (λ (b : Bool). enter_lines a h k ∷ (visits_in ys e.0.children standing ++ leave_then b e.0.children xs)) (sym s);
        alike = λ r. alike_head h e.0.head k e.0.children r p q;
      }

  -- by the act
  act_enters : {a : Act} {h : Head} {k : Forest} (cur hoist : ℕ) (st : Store) → Fit h k → Chosen a h k
      → Enters ys a h k (enter_as a cur hoist h k st)
  unfolding enter_as visits_as enter_lines is_using enter_program transform_block_statement transform_for_statement transform_switch_statement enter_try_statement enter_function_body enter_for_of_statement create_try_stmt
  act_enters {h = h} {k = k} cur hoist st p (kept i) =
      record {
        visits =
            λ xs. ap (λ (v : List (List Line)). [] ∷ (visits_in ys k standing ++ v))
            (leave_if (is_static_block h) (context_lines of_static_block k) xs);
        alike = λ r. (refl, refl, refl, refl);
      }
  act_enters {h = h} {k = k} cur hoist st p (as_program e u) =
      let i = p.items (eq-eqb h.tag Tag.Program e) u in
      changed (program_opens ys h k st i.0 i.1 u) (at_tag Plain h Tag.Program e (refl, refl)) (at_tag Plain h Tag.Program e (refl, refl)) (rw e)
  act_enters {h = h} {k = k} cur hoist st p (as_block e u) =
      changed (block_opens ys cur hoist h k st) (at_tag Plain h Tag.Block e (refl, refl)) (refl, refl) refl
  act_enters {h = h} {k = k} cur hoist st p (as_body e u) =
      changed (body_opens ys cur hoist h k st) (at_tag Plain h Tag.Body e (refl, refl)) (refl, refl) refl
  act_enters {h = h} {k = k} cur hoist st p (as_try e u) =
      changed (try_opens ys cur hoist h k st) (at_tag Plain h Tag.Try e (refl, refl)) (at_tag Plain h Tag.Try e (refl, refl)) (rw e)
  act_enters {h = h} {k = k} cur hoist st p (as_for e u) =
      let n : Plain h = at_loop Plain h e (refl, refl) (refl, refl) in
      changed (for_opens ys cur hoist h k st n.0 p.label u) n (refl, refl) refl
  act_enters {h = h} {k = k} cur hoist st p (as_switch e u) =
      at_tag (λ g. Enters ys switch g k (transform_switch_statement cur g k st)) h Tag.Switch e
      (changed (switch_opens ys cur h.a h.b h.c k st) (refl, refl) (refl, refl) refl)
  act_enters {h = h} cur hoist st p (as_insert {h₁ = h₁} {h₂ = h₂} {h₃ = h₃} {k₁ = k₁} {k₂ = k₂} {k₃ = k₃} {r = r} e b two) =
      let q = p.side (eq-eqb h.tag Tag.ForOf e) b.both in
      let n : Plain h = at_tag Plain h Tag.ForOf e (refl, refl) in
      changed (insert_opens ys h h₁ k₁ h₂ k₂ h₃ k₃ r st b.uses b.identifier q.0 q.2 two) n n (rw e)
  act_enters {h = h} cur hoist st p (as_wrap {h₁ = h₁} {h₂ = h₂} {h₃ = h₃} {k₁ = k₁} {k₂ = k₂} {k₃ = k₃} {r = r} e b) =
      let q = p.side (eq-eqb h.tag Tag.ForOf e) b.both in
      let n : Plain h = at_tag Plain h Tag.ForOf e (refl, refl) in
      changed (wrap_opens ys h h₁ k₁ h₂ k₂ h₃ k₃ r st b.uses b.identifier q.0 q.2) n n (rw e)

  pub enters : (cur hoist : ℕ) (h : Head) (k : Forest) (st : Store) → Fit h k
      → Enters ys (act_of ys h k) h k (enter_as (act_of ys h k) cur hoist h k st)
  enters cur hoist h k st p = act_enters cur hoist st p (chosen ys h k)
