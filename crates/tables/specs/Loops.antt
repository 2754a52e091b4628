-- The two kinds of loops, and the laws that tie code to them.
-- Assumes nothing.
use Rattle.std.specs.Prelude.{if◌then◌else◌, ◌≡◌, refl, Bool, true, false, ℕ, zero, suc, ◌+◌, ◌-◌, ◌≤◌, ◌<◌}
use Rattle.std.proofs.Common.{sym, zero-add, arith}

-- n turns
unfoldable pub turns : {A : Type 0} → ℕ → (A → A) → A → A
turns zero f x = x
turns (suc n) f x = turns n f (f x)

-- at most n turns, fewer if a state says stop
unfoldable pub until : {A : Type 0} → ℕ → (A → Bool) → (A → A) → A → A
until zero stop f x = x
until (suc n) stop f x = if stop x then x else until n stop f (f x)

pub turns_more : {A : Type 0} (n m : ℕ) (f : A → A) (x : A) → turns (n + m) f x ≡ turns m f (turns n f x)
unfolding turns
turns_more zero m f x = rw zero-add
turns_more (suc n) m f x =
    let e : suc n + m ≡ suc (n + m) = omega arith in
    rw e (turns_more n m f (f x))

pub one_less : (n k : ℕ) → k < n → n - k ≡ suc (n - (k + 1))
one_less n k h = omega arith

none_left : (n k : ℕ) → n ≤ k → n - k ≡ 0
none_left n k h = omega arith

pub next_turn : {A : Type 0} (n k : ℕ) (f : A → A) (r x : A) → r ≡ turns (n - k) f x → k < n → r ≡ turns (n - (k + 1)) f (f x)
unfolding turns
next_turn n k f r x e h = rw (one_less n k h) at e

pub last_turn : {A : Type 0} (n k : ℕ) (f : A → A) (r x : A) → r ≡ turns (n - k) f x → n ≤ k → x ≡ r
unfolding turns
last_turn n k f r x e h = rw (none_left n k h) at (sym e)

pub go_on : {A : Type 0} (n k : ℕ) (stop : A → Bool) (f : A → A) (r x : A)
    → r ≡ until (n - k) stop f x → k < n → stop x ≡ false → r ≡ until (n - (k + 1)) stop f (f x)
unfolding until
go_on n k stop f r x e h s = rw (one_less n k h, s) at e

pub run_out : {A : Type 0} (n k : ℕ) (stop : A → Bool) (f : A → A) (r x : A) → r ≡ until (n - k) stop f x → n ≤ k → x ≡ r
unfolding until
run_out n k stop f r x e h = rw (none_left n k h) at (sym e)

stopped_at : {A : Type 0} (n : ℕ) (stop : A → Bool) (f : A → A) (x : A) → stop x ≡ true → until n stop f x ≡ x
unfolding until
stopped_at zero stop f x s = refl
stopped_at (suc n) stop f x s = rw s

pub stopped : {A : Type 0} (n : ℕ) (stop : A → Bool) (f : A → A) (r x : A) → r ≡ until n stop f x → stop x ≡ true → x ≡ r
stopped n stop f r x e s = sym (rw (stopped_at n stop f x s) at e)
