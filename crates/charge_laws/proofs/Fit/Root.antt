-- The tree is one Program, all along the walk.
-- Assumes nothing.
use Rattle.std.specs.Prelude.{Ok, ◌≡◌, refl, Bool, true, false, List, [], ◌∷◌, ℕ, zero, suc, eqb}
use Rattle.std.proofs.Common.{ap, ap₂, ◌∙◌, arith, eqb-true}
use Rattle.meaning.specs.Numbers.Tag
use Rattle.meaning.specs.Tree.{Head, hd, Forest, none, more, one, Node, count, ◌&◌}
use Rattle.meaning.specs.File.{Symbol, File, numbers_of, has_children, own_numbers}
use Rattle.meaning.specs.Grammar.{tags_of, allowed, right, head_of}
use Rattle.meaning.specs.Reading.{read_file}
use Rattle.meaning.specs.Scoping.{Store}
use Rattle.meaning.specs.Statements.{any_using}
use Rattle.meaning.specs.Program.{enter_program}
use Rattle.meaning.specs.Walk.{
  Act,
  act_if,
  program,
  act_of,
  enter_as,
  enter,
  leave,
  Crumb,
  crumb,
  Spot,
  at,
  leaving,
  over,
  current_scope,
  hoist_scope,
  visit,
  visits,
  store_of,
  start,
  plug,
  tree_at,
}
use Rattle.meaning.specs.declared.Place.TheVariants.{Program}
use Rattle.meaning.specs.declared.Field.{Field}
use Rattle.parsing.specs.Files.{file_parsed}
use Rattle.spec_laws.specs.Bools.{or-false}
use Rattle.charge_laws.proofs.Counts.Visits.{&-assoc}
use Rattle.charge_laws.proofs.Counts.Pending.{Pending, pending_start, pending_visit}
use Rattle.charge_laws.proofs.Counts.Figures.{settled}
use Rattle.charge_laws.proofs.Fit.Accepted.{accepted_fit}
use Rattle.charge_laws.proofs.Fit.Placed.{ReadAs, Placed, accepted_placed}

-- the first of some records
unfoldable pub root : Forest → Head
root none = hd 0 0 0 0
root (more h k r) = h

-- ---- a record that is replaced

beside_root : (d : Forest) (h : Head) (k k' r r' : Forest) → root (d & more h k r) ≡ root (d & more h k' r')
unfolding root ◌&◌
beside_root none h k k' r r' = refl
beside_root (more h₁ k₁ r₁) h k k' r r' = refl

-- below an open record
below_root : (p : List Crumb) (c : Crumb) (f g : Forest) → root (plug f (c ∷ p)) ≡ root (plug g (c ∷ p))
unfolding plug
below_root [] (crumb h d r) f g = beside_root d h f g r r
below_root (c ∷ p) (crumb h d r) f g = below_root p c (d & more h f r) (d & more h g r)

-- as many records stand at the top

beside_count : (d : Forest) (h h' : Head) (k k' r : Forest) → count (d & more h k r) ≡ count (d & more h' k' r)
unfolding count ◌&◌
beside_count none h h' k k' r = refl
beside_count (more h₁ k₁ r₁) h h' k k' r = ap suc (beside_count r₁ h h' k k' r)

plug_count : (p : List Crumb) (d : Forest) (h h' : Head) (k k' r : Forest) → count (plug (d & more h k r) p) ≡ count (plug (d & more h' k' r) p)
unfolding plug
plug_count [] d h h' k k' r = beside_count d h h' k k' r
plug_count (crumb x d₀ r₀ ∷ p) d h h' k k' r = plug_count p d₀ x x (d & more h k r) (d & more h' k' r) r₀

-- ---- one visit

program_head : (b : Bool) (cur hoist : ℕ) (h : Head) (k : Forest) (st : Store) → (enter_as (act_if b program) cur hoist h k st).0.head ≡ h
unfolding enter_as enter_program
program_head true cur hoist h k st = refl
program_head false cur hoist h k st = refl

program_act : (as_read : List Symbol) (h : Head) (k : Forest) → h.tag ≡ Tag.Program → act_of as_read h k ≡ act_if (any_using k) program
unfolding act_of
program_act as_read h k e = rw e

enter_head : (cur hoist : ℕ) (h : Head) (k : Forest) (st : Store) → h.tag ≡ Tag.Program → (enter cur hoist h k st).0.head ≡ h
unfolding enter
enter_head cur hoist h k st e =
    ap (λ (a : Act). (enter_as a cur hoist h k st).0.head) (program_act st.as_read h k e) ∙ program_head (any_using k) cur hoist h k st

entered_root : (d : Forest) (h : Head) (k r : Forest) (p : List Crumb) (e : Node × Store)
    → ((root (plug (d & more h k r) p)).tag ≡ Tag.Program → h.tag ≡ Tag.Program → e.0.head ≡ h)
    → (root (plug (d & more h k r) p)).tag ≡ Tag.Program
    → root (plug (d & more e.0.head e.0.children r) p) ≡ root (plug (d & more h k r) p)
unfolding root plug ◌&◌
entered_root none h k r [] e same t = same t t
entered_root (more h₁ k₁ r₁) h k r [] e same t = refl
entered_root d h k r (c ∷ p) e same t = below_root p c _ _

visit_root : (s : Spot) → Pending s → (root (tree_at s)).tag ≡ Tag.Program → root (tree_at (visit s)) ≡ root (tree_at s)
unfolding visit tree_at plug ◌&◌
visit_root (over tree st) q t = refl
visit_root (at d h k r p st) q t =
    let e = enter (current_scope p) (hoist_scope p) h k st in
    ap root (settled (crumb e.0.head d r ∷ p) none e.0.children e.1).0
    ∙ entered_root d h k r p e (λ _. enter_head (current_scope p) (hoist_scope p) h k st) t
visit_root (leaving k h d r p st) q t =
    let e = leave h k st in
    let static = eqb-true h.tag Tag.StaticBlock q.0 in
    ap root ((settled p (d & one e.0.head e.0.children) r e.1).0 ∙ ap (λ (f : Forest). plug f p) (&-assoc d (one e.0.head e.0.children) r))
    ∙ entered_root d h k r p e (λ _ u. absurd (omega (arith, u, static))) t

visits_root : (k : ℕ) (s : Spot) → Pending s → (root (tree_at s)).tag ≡ Tag.Program → root (tree_at (visits k s)) ≡ root (tree_at s)
unfolding visits
visits_root zero s q t = refl
visits_root (suc k) s q t =
    let e = visit_root s q t in
    visits_root k (visit s) (pending_visit s q) (ap (λ (h : Head). h.tag) e ∙ t) ∙ e

visit_count : (s : Spot) → count (tree_at (visit s)) ≡ count (tree_at s)
unfolding visit tree_at plug ◌&◌
visit_count (over tree st) = refl
visit_count (at d h k r p st) =
    let e = enter (current_scope p) (hoist_scope p) h k st in
    ap count (settled (crumb e.0.head d r ∷ p) none e.0.children e.1).0 ∙ plug_count p d e.0.head h e.0.children k r
visit_count (leaving k h d r p st) =
    let e = leave h k st in
    ap count ((settled p (d & one e.0.head e.0.children) r e.1).0 ∙ ap (λ (f : Forest). plug f p) (&-assoc d (one e.0.head e.0.children) r))
    ∙ plug_count p d e.0.head h e.0.children k r

visits_count : (k : ℕ) (s : Spot) → count (tree_at (visits k s)) ≡ count (tree_at s)
unfolding visits
visits_count zero s = refl
visits_count (suc k) s = visits_count k (visit s) ∙ visit_count s

-- ---- a file

-- a Program names scope row 1
program_read : (syms : ℕ) (x : Field) (h : Head) (k : Forest) → ReadAs syms Program x h k → h ≡ hd Tag.Program 1 0 0
unfolding allowed tags_of right head_of own_numbers has_children numbers_of
program_read syms x h k q =
    let t : x.tag ≡ Tag.Program = eqb-true x.tag Tag.Program (or-false (eqb x.tag Tag.Program) q.taken) in
    let one : x.a ≡ 1 = eqb-true x.a 1 (rw t at q.numbers) in
    q.head ∙ rw (t, one)

root_read : (syms : ℕ) (f : Forest) → count f ≡ 1 → Placed syms (λ _. Program) 0 f → root f ≡ hd Tag.Program 1 0 0
unfolding root count
root_read syms none n q = absurd (omega arith)
root_read syms (more h k r) n q = program_read syms q.0 h k q.1

-- THE FIRST RECORD after any number of visits of an accepted file's walk is Program, with scope row 1.
pub accepted_root : (b : List ℕ) (f : File) (k : ℕ) → read_file b ≡ Ok f → root (tree_at (visits k (start f))) ≡ hd Tag.Program 1 0 0
unfolding start plug ◌&◌
accepted_root b f k e =
    let q = accepted_placed b f e in
    let first : root (tree_at (start f)) ≡ hd Tag.Program 1 0 0 =
    ap root (settled [] none f.tree (store_of f)).0 ∙ root_read q.0 f.tree (file_parsed b f e).one_program q.1 in
    visits_root k (start f) (pending_start f (accepted_fit b f e)) (ap (λ (h : Head). h.tag) first) ∙ first

no_more : (r : Forest) → suc (count r) ≡ 1 → r ≡ none
unfolding count
no_more none e = refl
no_more (more h k r) e = absurd (omega arith)

alone : (tree : Forest) → root tree ≡ hd Tag.Program 1 0 0 → count tree ≡ 1 → (items : Forest) × (tree ≡ one (hd Tag.Program 1 0 0) items)
unfolding root count
alone none e n = absurd (omega arith)
alone (more h k r) e n = (k, ap₂ (λ (h : Head) (r : Forest). more h k r) e (no_more r n))

-- and nothing stands beside it.
pub accepted_program : (b : List ℕ) (f : File) (k : ℕ) → read_file b ≡ Ok f
    → (items : Forest) × (tree_at (visits k (start f)) ≡ one (hd Tag.Program 1 0 0) items)
unfolding start plug ◌&◌
accepted_program b f k e =
    alone (tree_at (visits k (start f))) (accepted_root b f k e)
    (visits_count k (start f) ∙ ap count (settled [] none f.tree (store_of f)).0 ∙ (file_parsed b f e).one_program)
