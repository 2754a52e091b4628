-- What is known of a record for which a visit chooses an act: one view for every property of visits.
-- Assumes nothing.
use Rattle.std.specs.Prelude.{if◌then◌else◌, ◌≡◌, refl, Bool, true, false, not, ◌||◌, ◌&&◌, List, [], ◌∷◌, ℕ, eqb}
use Rattle.std.proofs.Common.{sym, subst, eqb-true}
use Rattle.meaning.specs.Numbers.Tag
use Rattle.meaning.specs.Tree.{one_of, Head, hd, Forest, none, more}
use Rattle.meaning.specs.File.{Symbol}
use Rattle.meaning.specs.Statements.{is_using, any_using}
use Rattle.meaning.specs.Contexts.{any_part_using, any_case_using, for_list}
use Rattle.meaning.specs.ForOf.{binds_identifier, bound_symbol, binds_name, ForOfAct, as_is, insert, wrap, for_of_act}
use Rattle.meaning.specs.Walk.{Act, keep, of_for_of, act_of}
use Rattle.spec_laws.specs.Tags.{Seen, other, here, there, seen, clash, and_left, and_right}
use Rattle.charge_laws.specs.Growth.Chosen.{Binds, held_using, Idle, Chosen, kept, as_program, as_block, as_body, as_try, as_for, as_switch, as_insert, as_wrap}

-- a record that is kept for its list, for what it holds, or because neither is looked at
idle_list : {h : Head} {k : Forest} → one_of (Tag.ForOf ∷ Tag.Switch ∷ Tag.Try ∷ []) h.tag ≡ false → any_using k ≡ false → Idle h k
idle_list {h} n u =
    let t = h.tag in
    record {
      list = λ _. u;
      loop = λ e. absurd (clash n (rw (eqb-true t Tag.ForOf e)));
      parts = λ e. absurd (clash n (rw (eqb-true t Tag.Try e)));
      cases = λ e. absurd (clash n (rw (eqb-true t Tag.Switch e)));
    }

idle_loop : {a b c : ℕ} {k : Forest} → held_using k ≡ false → Idle (hd Tag.ForOf a b c) k
idle_loop u =
    record { list = λ e. absurd (clash refl e); loop = λ _. u; parts = λ e. absurd (clash refl e); cases = λ e. absurd (clash refl e) }

idle_try : {a b c : ℕ} {k : Forest} → any_part_using k ≡ false → Idle (hd Tag.Try a b c) k
idle_try u =
    record { list = λ e. absurd (clash refl e); loop = λ e. absurd (clash refl e); parts = λ _. u; cases = λ e. absurd (clash refl e) }

idle_switch : {a b c : ℕ} {k : Forest} → any_case_using k ≡ false → Idle (hd Tag.Switch a b c) k
idle_switch u =
    record { list = λ e. absurd (clash refl e); loop = λ e. absurd (clash refl e); parts = λ e. absurd (clash refl e); cases = λ _. u }

idle : {h : Head} {k : Forest} → one_of (Tag.Program ∷ Tag.Block ∷ Tag.For ∷ Tag.Body ∷ []) h.tag ≡ false
    → one_of (Tag.ForOf ∷ Tag.Switch ∷ Tag.Try ∷ []) h.tag ≡ false → Idle h k
idle {h} l n =
    let t = h.tag in
    record {
      list = λ e. absurd (clash l e);
      loop = λ e. absurd (clash n (rw (eqb-true t Tag.ForOf e)));
      parts = λ e. absurd (clash n (rw (eqb-true t Tag.Try e)));
      cases = λ e. absurd (clash n (rw (eqb-true t Tag.Switch e)));
    }

chosen_if : {h : Head} {k : Forest} (b : Bool) {x y : Act} → (b ≡ true → Chosen x h k) → (b ≡ false → Chosen y h k)
    → Chosen (if b then x else y) h k
chosen_if true p q = p refl
chosen_if false p q = q refl

for_of_if : {h : Head} {k : Forest} (b : Bool) (x y : ForOfAct) → (b ≡ true → Chosen (of_for_of x) h k) → (b ≡ false → Chosen (of_for_of y) h k)
    → Chosen (of_for_of (if b then x else y)) h k
for_of_if true x y p q = p refl
for_of_if false x y p q = q refl

for_of_chosen : (ys : List Symbol) (a b c : ℕ) (k : Forest) → Chosen (of_for_of (for_of_act ys k)) (hd Tag.ForOf a b c) k
unfolding for_of_act held_using
for_of_chosen ys a b c none = kept (idle_loop refl)
for_of_chosen ys a b c (more h₁ k₁ none) = kept (idle_loop refl)
for_of_chosen ys a b c (more h₁ k₁ (more h₂ k₂ none)) = kept (idle_loop refl)
for_of_chosen ys a b c (more h₁ k₁ (more h₂ k₂ (more h₃ k₃ r))) =
    let free = not (binds_name ys h₃.a (bound_symbol k₁)) in
    for_of_if (is_using h₁ && binds_identifier k₁) (if eqb h₃.tag Tag.Block && free then insert else wrap) as_is
    (λ e.
    let d : Binds h₁ k₁ = record { uses = and_left (is_using h₁) _ e; identifier = and_right (is_using h₁) _ e; both = e } in
    for_of_if (eqb h₃.tag Tag.Block && free) insert wrap
    (λ f. as_insert refl d (eqb-true h₃.tag Tag.Block (and_left (eqb h₃.tag Tag.Block) free f)))
    (λ _. as_wrap refl d))
    (λ e. kept (idle_loop e))

chosen_as : (ys : List Symbol) {t : ℕ} (a b c : ℕ) (k : Forest) → Seen (Tag.Program ∷ Tag.Block ∷ Tag.Label ∷ Tag.For ∷ Tag.ForOf ∷ Tag.Switch ∷ Tag.Try ∷ Tag.Body ∷ []) t
    → Chosen (act_of ys (hd t a b c) k) (hd t a b c) k
unfolding act_of for_list
chosen_as ys a b c k here = chosen_if (any_using k) (as_program refl) (λ u. kept (idle_list refl u))
chosen_as ys a b c k (there e₁ here) = chosen_if (any_using k) (as_block refl) (λ u. kept (idle_list refl u))
chosen_as ys a b c k (there e₁ (there e₂ here)) = chosen_if (any_using (for_list k)) (as_for refl) (λ _. kept (idle refl refl))
chosen_as ys a b c k (there e₁ (there e₂ (there e₄ here))) = chosen_if (any_using k) (as_for refl) (λ u. kept (idle_list refl u))
chosen_as ys a b c k (there e₁ (there e₂ (there e₄ (there e₇ here)))) = for_of_chosen ys a b c k
chosen_as ys a b c k (there e₁ (there e₂ (there e₄ (there e₇ (there e₈ here))))) =
    chosen_if (any_case_using k) (as_switch refl) (λ u. kept (idle_switch u))
chosen_as ys a b c k (there e₁ (there e₂ (there e₄ (there e₇ (there e₈ (there e₉ here)))))) =
    chosen_if (any_part_using k) (as_try refl) (λ u. kept (idle_try u))
chosen_as ys a b c k (there e₁ (there e₂ (there e₄ (there e₇ (there e₈ (there e₉ (there e₁₁ here))))))) =
    chosen_if (any_using k) (as_body refl) (λ u. kept (idle_list refl u))
chosen_as ys {t} a b c k (there e₁ (there e₂ (there e₄ (there e₇ (there e₈ (there e₉ (there e₁₁ (there e₁₄ other)))))))) =
    let h = hd t a b c in
    let none_of : act_of ys h k ≡ keep = rw (e₁, e₂, e₄, e₇, e₈, e₉, e₁₁, e₁₄) in
    let no_list : one_of (Tag.Program ∷ Tag.Block ∷ Tag.For ∷ Tag.Body ∷ []) t ≡ false = rw (e₁, e₂, e₇, e₁₄) in
    let no_other : one_of (Tag.ForOf ∷ Tag.Switch ∷ Tag.Try ∷ []) t ≡ false = rw (e₈, e₉, e₁₁) in
    subst (λ (x : Act). Chosen x h k) (sym none_of) (kept (idle no_list no_other))

-- THE VIEW: what is known of every record for which a visit chooses an act.
pub chosen : (ys : List Symbol) (h : Head) (k : Forest) → Chosen (act_of ys h k) h k
chosen ys h k = chosen_as ys h.a h.b h.c k (seen (Tag.Program ∷ Tag.Block ∷ Tag.Label ∷ Tag.For ∷ Tag.ForOf ∷ Tag.Switch ∷ Tag.Try ∷ Tag.Body ∷ []) h.tag)

-- ---- what holds of a record with a tag

pub at_tag : (P : Head → Type 0) (h : Head) (t : ℕ) → h.tag ≡ t → P (hd t h.a h.b h.c) → P h
at_tag P h t e p = subst (λ (n : ℕ). P (hd n h.a h.b h.c)) (sym e) p

-- of a Label or a For
pub at_loop : (P : Head → Type 0) (h : Head) → one_of (Tag.Label ∷ Tag.For ∷ []) h.tag ≡ true → P (hd Tag.Label h.a h.b h.c)
    → P (hd Tag.For h.a h.b h.c) → P h
at_loop P h e p q = go (eqb h.tag Tag.Label) (eqb h.tag Tag.For) refl refl e
  where
    go : (b c : Bool) → eqb h.tag Tag.Label ≡ b → eqb h.tag Tag.For ≡ c → (b || (c || false)) ≡ true → P h
    go true c i j e = at_tag P h 4 (eqb-true h.tag Tag.Label i) p
    go false true i j e = at_tag P h 7 (eqb-true h.tag Tag.For j) q
    go false false i j e = absurd (clash refl e)
