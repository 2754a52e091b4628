-- What a tree demands of the scope rows, and what they offer, as sums over weights of a row's number and its parent. The weights are free: two sums
-- that agree for all of them go over the same rows and parents, each as often.
-- Assumes nothing.
use Rattle.std.specs.Prelude.{if◌then◌else◌, ◌≡◌, List, [], ◌∷◌, ℕ, suc, ◌+◌}
use Rattle.std.proofs.Common.{sym, subst}
use Rattle.meaning.specs.Tree.{Forest, none, more}
use Rattle.meaning.specs.File.{Scope}
use Rattle.meaning.specs.Grammar.{scope_of, below}
use Rattle.meaning.specs.Agreement.{names_scope}

-- of a row's number and its parent
abbrev pub Weight : Type 0
Weight = ℕ → ℕ → ℕ

-- records below the scope `cur`: each that names a row demands that it is there, with the scope around as its parent
unfoldable pub demanded : Weight → ℕ → Forest → ℕ
demanded w cur none = 0
demanded w cur (more h k r) =
    (if names_scope h then w (scope_of h) cur else 0) + (demanded w (below cur (scope_of h)) k + demanded w cur r)

-- rows, numbered from i on
unfoldable pub offered : Weight → ℕ → List Scope → ℕ
offered w i [] = 0
offered w i (s ∷ ss) = w i s.parent + offered w (suc i) ss

-- the rows offer so much, whatever the weights
abbrev pub Offers : List Scope → (Weight → ℕ) → Type 0
Offers ss d = (w : Weight) → offered w 1 ss ≡ d w

-- the same rows
pub offers_same : {ss ss' : List Scope} {d : Weight → ℕ} → ss' ≡ ss → Offers ss d → Offers ss' d
offers_same {d = d} e o = subst (λ (x : List Scope). Offers x d) (sym e) o
