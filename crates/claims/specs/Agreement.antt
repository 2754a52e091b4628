-- The scope rows and the tree that the tables show (02, request 14).
-- Assumes nothing.
use Rattle.std.specs.Prelude.{Ok, ◌≡◌, List, ℕ}
use Rattle.std.proofs.Common.{sym, ap, subst, ◌∙◌}
use Rattle.meaning.specs.Tree.{Row}
use Rattle.meaning.specs.File.{Scope, File}
use Rattle.meaning.specs.Agreement.{ScopesAgree}
use Rattle.meaning.specs.Walk.{Spot, start, tree_at, store_at}
use Rattle.meaning.specs.ImportLine.{visit_calls}
use Rattle.meaning.specs.Lowering.{admit}
use Rattle.spec_laws.specs.Calls.{calls_are}
use Rattle.start.specs.Start.{lent_in}
use Rattle.start.specs.Filled.{admitted}
use Rattle.representation.specs.Shown.Shown.{records_in, scopes_in}
use Rattle.readback_laws.specs.Decoded.{tree_of}
use Rattle.readback_laws.proofs.Back.{tree_flat}
use Rattle.agreement_laws.specs.Agreed.{calls_scopes_agree}
use Rattle.claims.specs.Calls.{after_calls, calls_tree, calls_scopes}

pub scopes_in_tables : (bytes r s y : List ℕ) (f : File) → admit bytes (lent_in r s y) ≡ Ok f → (k : ℕ)
    → let tables = after_calls k f r s y in ScopesAgree (scopes_in tables) (tree_of (records_in tables))
scopes_in_tables bytes r s y f e k =
    let spot = visit_calls k (start f) in
    let tables = after_calls k f r s y in
    let at_spot : ScopesAgree (store_at spot).scopes (tree_at spot) =
    subst (λ (s : Spot). ScopesAgree (store_at s).scopes (tree_at s)) (sym (calls_are k f)) (calls_scopes_agree bytes f k (admitted bytes r s y f e).0) in
    let tree : tree_of (records_in tables) ≡ tree_at spot =
    ap (λ (rs : List Row). tree_of rs) (calls_tree bytes r s y f e k) ∙ tree_flat (tree_at spot) in
    subst (ScopesAgree (scopes_in tables)) (sym tree) (subst (λ (ss : List Scope). ScopesAgree ss (tree_at spot)) (sym (calls_scopes bytes r s y f e k)) at_spot)
