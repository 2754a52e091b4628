-- The trees spoken of, the tags of records, and the roles of their children.
-- Assumes nothing.
use Rattle.std.specs.Prelude.{if◌then◌else◌, ◌≡◌, refl, Bool, true, false, ◌&&◌, [], ◌∷◌, ℕ, eqb}
use Rattle.std.proofs.Common.{sym, ◌∙◌}
use Rattle.spec_laws.specs.Tags.{Seen, other, here, there, clash}
use Rattle.meaning.specs.Numbers.Tag
use Rattle.meaning.specs.Tree.{one_of, Forest, none, more}
use Rattle.meaning.specs.Statements.{is_using}
use Rattle.meaning.specs.ForOf.{binds_identifier, bound_symbol}
use Rattle.charge_laws.proofs.Growth.Items.{Exports}
use Rattle.figures.specs.declared.tally.Role.{Role}
use Rattle.figures.specs.declared.tally.Role.TheVariants.{Plain, Part, Item, Default, Exported, ExportedDeclarator, ExportedName, Held, Body}
use Rattle.figures.specs.Tally.{role_index, is_role, role_of, body_of, is_body}

-- no record of a list has this tag; no record of a forest
abbrev pub Lacks : ℕ → Forest → Type 0
Lacks t none = Unit {0}
Lacks t (more h k r) = (eqb h.tag t ≡ false) × Lacks t r

abbrev pub LacksBelow : ℕ → Forest → Type 0
LacksBelow t none = Unit {0}
LacksBelow t (more h k r) = (eqb h.tag t ≡ false) × LacksBelow t k × LacksBelow t r

-- No Declaration stands directly in a Declaration (the tally would count its initializers), and no Program below a Program (without a
-- using, it would drop the inner one's items), whose exports have one child.
abbrev pub Regular : Forest → Type 0
Regular none = Unit {0}
Regular (more h k r) =
    (eqb h.tag Tag.Declaration ≡ true → Lacks Tag.Declaration k) × (eqb h.tag Tag.Program ≡ true → LacksBelow Tag.Program k × Exports k) × Regular k × Regular r

-- ---- what holds of every role that a record's children can have

if_all : (P : Role → Type 0) (b : Bool) {x y : Role} → (b ≡ true → P x) → P y → P (if b then x else y)
if_all P true p q = p refl
if_all P false p q = q

pub role_of_all : (P : Role → Type 0) (u : Role) (t : ℕ) (held : Bool) (body : Role) (i : ℕ) → P Plain → P Held
    → (one_of (Tag.Try ∷ Tag.Catch ∷ []) t ≡ true → P Part) → (eqb t Tag.Program ≡ true → P Item) → (eqb t Tag.ForOf ≡ true → P body)
    → (eqb t Tag.Declaration ≡ true → is_role u Exported ≡ true → P ExportedDeclarator)
    → (eqb t Tag.Declarator ≡ true → is_role u ExportedDeclarator ≡ true → P ExportedName)
    → (eqb t Tag.DefaultExport ≡ true → is_role u Item ≡ true → P Default)
    → (eqb t Tag.ExportedDeclaration ≡ true → is_role u Item ≡ true → P Exported)
    → P (role_of u t held body i)
unfolding role_of
role_of_all P u t held body i plain kept part item inner declarator name default exported =
    if_all P (eqb t Tag.Program) item
    (if_all P (eqb t Tag.Declaration) (λ e. if_all P (is_role u Exported) (declarator e) (if_all P held (λ _. kept) plain))
    (if_all P (eqb t Tag.Declarator) (λ e. if_all P (is_role u ExportedDeclarator) (name e) plain)
    (if_all P (eqb t Tag.ForOf) (λ e. if_all P (eqb i 2) (λ _. inner e) plain)
    (if_all P (one_of (Tag.Try ∷ Tag.Catch ∷ []) t) part
    (if_all P (eqb t Tag.DefaultExport) (λ e. if_all P (is_role u Item) (default e) plain)
    (if_all P (eqb t Tag.ExportedDeclaration) (λ e. if_all P (is_role u Item) (exported e) plain) plain))))))

pub body_of_all : (P : Role → Type 0) → P Plain → ((y : ℕ) → P (Body y)) → (k : Forest) → P (body_of k)
unfolding body_of
body_of_all P plain body none = plain
body_of_all P plain body (more h k r) = if_all P (is_using h && binds_identifier k) (λ _. body (bound_symbol k)) plain

-- ---- bodies, and parts

pub no_body : (u : Role) (t : ℕ) (held : Bool) (body : Role) (i : ℕ) → eqb t Tag.ForOf ≡ false → is_body (role_of u t held body i) ≡ false
unfolding role_index
no_body u t held body i e =
    role_of_all (λ (x : Role). is_body x ≡ false) u t held body i refl refl (λ _. refl) (λ _. refl) (λ d. absurd (clash e d)) (λ _ _. refl)
    (λ _ _. refl) (λ _ _. refl) (λ _ _. refl)

abbrev NotPart : Role → Type 0
NotPart x = is_role x Part ≡ false

pub part_below : (u : Role) (t : ℕ) (held : Bool) (k : Forest) (i : ℕ) → Seen (Tag.Try ∷ Tag.Catch ∷ []) t
    → is_role (role_of u t held (body_of k) i) Part ≡ one_of (Tag.Try ∷ Tag.Catch ∷ []) t
unfolding role_of role_index
part_below u t held k i here = refl
part_below u t held k i (there e₁₁ here) = refl
part_below u t held k i (there e₁₁ (there e₁₂ other)) =
    let e : one_of (Tag.Try ∷ Tag.Catch ∷ []) t ≡ false = rw (e₁₁, e₁₂) in
    role_of_all NotPart u t held (body_of k) i refl refl (λ d. absurd (clash e d)) (λ _. refl)
    (λ _. body_of_all NotPart refl (λ y. refl) k) (λ _ _. refl) (λ _ _. refl) (λ _ _. refl) (λ _ _. refl)
    ∙ sym e
