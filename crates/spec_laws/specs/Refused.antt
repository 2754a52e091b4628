-- Answers that refuse.
-- Assumes nothing.
use Rattle.std.specs.Prelude.{◌≡◌, ℕ, Ok, Err, IsErrAnd}
use Rattle.std.proofs.Common.{ap}
use Rattle.std.proofs.lemmas.Result.{err_from_is_err_and}
use Rattle.meaning.specs.declared.Reason.{Reason}
use Rattle.meaning.specs.declared.Refusal.{Refusal}
use Rattle.meaning.specs.Refusals.{refusal, Outcome, refused}

-- two refusals are one by their reasons and their places
pub same_refused : {A : Type 0} {c d : Reason} {p q : ℕ} → ◌≡◌ {A = Outcome A} (refused c p) (refused d q) → (c ≡ d) × (p ≡ q)
same_refused {c = c} {d = d} {p = p} {q = q} e =
    let same : refusal c p ≡ refusal d q = cc in
    (ap (λ (r : Refusal). r.reason) same, ap (λ (r : Refusal). r.place) same)

-- a `?` hands on the refusal that it meets
pub handed_on : {A : Type 0} {r : Refusal} (o : Outcome A) → IsErrAnd o (λ q. q ≡ r) → o ≡ Err r
handed_on o is = let (q, err, same) = err_from_is_err_and o is in rw same at err
