-- Places that do not take a tag, below each record.
-- Assumes nothing.
use Rattle.std.specs.Prelude.{if◌then◌else◌, ◌≡◌, refl, Bool, true, false, not, ◌&&◌, [], ◌∷◌, ℕ, eqb, ltb}
use Rattle.std.proofs.Common.{subst, eqb-true}
use Rattle.meaning.specs.Numbers.Tag
use Rattle.meaning.specs.Numbers.Parts
use Rattle.meaning.specs.Tree.{one_of}
use Rattle.meaning.specs.Grammar.{tags_of, is, allowed, place_of}
use Rattle.meaning.specs.declared.Place.{Place}
use Rattle.meaning.specs.declared.Place.TheVariants.{
  ProgramItem,
  ListItem,
  PlainItem,
  Statement,
  ForOfDeclarator,
  Declarator,
  Name,
  Expression,
  ForLeft,
  ForOfLeft,
  SwitchExpression,
  Case,
  TryPart,
  Catch,
  Body,
  ClassItem,
  Specifier,
  DefaultExport,
  ExportedDeclaration,
}
use Rattle.meaning.specs.declared.Field.{Field}
use Rattle.spec_laws.specs.Tags.{clash}

-- a place does not take a tag
unfoldable pub Bars : ℕ → Place → Type 0
Bars n p = allowed p n ≡ false

pub bars_tag : (b : Bool) (p : Place) (t n : ℕ) → eqb t n ≡ b → allowed p t ≡ true → Bars n p → b ≡ false
unfolding Bars
bars_tag true p t n e y bars = absurd (clash bars (subst (λ (x : ℕ). allowed p x ≡ true) (eqb-true t n e) y))
bars_tag false p t n e y bars = refl

-- ---- below a record

-- a property of each place below a record, but that of a Case and that of a Catch
abbrev Others : (Place → Type 0) → Type 0
Others P =
    P ProgramItem × P ListItem × P PlainItem × P Statement × P ForOfDeclarator × P Declarator × P Name × P Expression × P ForLeft × P ForOfLeft
    × P SwitchExpression × P TryPart × P Body × P ClassItem × P Specifier × P DefaultExport × P ExportedDeclaration

pub either : (P : Place → Type 0) (b : Bool) {p q : Place} → P p → P q → P (if b then p else q)
either P true x y = x
either P false x y = y

given : (P : Place → Type 0) (b : Bool) {p q : Place} → (b ≡ true → P p) → P q → P (if b then p else q)
given P true x y = x refl
given P false x y = y

-- Cases stand in a Switch, and Catches in a Try.
below_record : (P : Place → Type 0) (p : Place) (x : Field) (i : ℕ) → Others P → (eqb x.tag Tag.Switch ≡ true → P Case)
    → (eqb x.tag Tag.Try ≡ true → P Catch) → P (place_of p x i)
unfolding place_of
below_record P p x i (program, list, plain, statement, for_of_declarator, declarator, name, expression, for_left, for_of_left, switch, part, body, class, specifier, default, exported) cases catch =
    let t = x.tag in
    either P (eqb t Tag.Program) program
    (either P (one_of (Tag.Block ∷ Tag.Body ∷ Tag.StaticBlock ∷ []) t) list
    (either P (eqb t Tag.Plain) plain
    (either P (eqb t Tag.Label) statement
    (either P (eqb t Tag.Declaration) (either P (is p ForOfLeft) for_of_declarator declarator)
    (either P (eqb t Tag.Declarator) (either P (ltb i x.b) name expression)
    (either P (eqb t Tag.For) (either P (eqb i 0) for_left (either P (eqb i 1) expression statement))
    (either P (eqb t Tag.ForOf) (either P (eqb i 0) for_of_left (either P (eqb i 1) expression statement))
    (given P (eqb t Tag.Switch) (λ e. either P (eqb i 0) switch (cases e))
    (either P (eqb t Tag.Case) (either P (ltb i x.a) expression list)
    (given P (eqb t Tag.Try) (λ e. either P (eqb i 1 && not (eqb x.a Parts.Finalizer)) (catch e) part)
    (either P (eqb t Tag.Catch) (either P (ltb i x.b) name part)
    (either P (eqb t Tag.Function) (either P (eqb i 0) expression body)
    (either P (eqb t Tag.Class) class
    (either P (eqb t Tag.ModuleLine) specifier
    (either P (eqb t Tag.DefaultExport) default
    (either P (eqb t Tag.ExportedDeclaration) exported
    (either P (is p SwitchExpression) switch expression)))))))))))))))))

-- no Program
pub below_bars_1 : (p : Place) (x : Field) (i : ℕ) → Bars Tag.Program (place_of p x i)
unfolding Bars allowed tags_of
below_bars_1 p x i =
    below_record (Bars Tag.Program) p x i
    (refl, refl, refl, refl, refl, refl, refl, refl, refl, refl, refl, refl, refl, refl, refl, refl, refl)
    (λ _. refl)
    (λ _. refl)

-- a Catch in a Try only
pub below_bars_12 : (p : Place) (x : Field) → eqb x.tag Tag.Try ≡ false → (i : ℕ) → Bars Tag.Catch (place_of p x i)
unfolding Bars allowed tags_of
below_bars_12 p x e i =
    below_record (Bars Tag.Catch) p x i
    (refl, refl, refl, refl, refl, refl, refl, refl, refl, refl, refl, refl, refl, refl, refl, refl, refl)
    (λ _. refl)
    (λ t. absurd (clash e t))

-- a Case in a Switch only
pub below_bars_10 : (p : Place) (x : Field) → eqb x.tag Tag.Switch ≡ false → (i : ℕ) → Bars Tag.Case (place_of p x i)
unfolding Bars allowed tags_of
below_bars_10 p x e i =
    below_record (Bars Tag.Case) p x i
    (refl, refl, refl, refl, refl, refl, refl, refl, refl, refl, refl, refl, refl, refl, refl, refl, refl)
    (λ t. absurd (clash e t))
    (λ _. refl)

-- in a Declaration no Declaration
pub below_bars_5 : (p : Place) (x : Field) → x.tag ≡ Tag.Declaration → (k : ℕ) → Bars Tag.Declaration (place_of p x k)
unfolding Bars place_of allowed tags_of
below_bars_5 p x e k = rw e (either (Bars Tag.Declaration) (is p ForOfLeft) refl refl)

-- the body of a ForOf is no Declaration
pub body_bars_5 : (p : Place) (x : Field) → x.tag ≡ Tag.ForOf → Bars Tag.Declaration (place_of p x 2)
unfolding Bars place_of allowed tags_of
body_bars_5 p x e = rw e
