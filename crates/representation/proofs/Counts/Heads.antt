-- The records in the rows of a spot: those of the visited rows and of the rest, and what a visit does to them.
-- Assumes nothing.
use Rattle.std.specs.Prelude.{if◌then◌else◌, ◌≡◌, refl, Bool, true, false, List, [], ◌∷◌, ◌++◌, ℕ, ◌+◌, length}
use Rattle.std.proofs.Common.{ap, ap₂, ◌∙◌, append_assoc, append-nil, arith}
use Rattle.meaning.specs.Tree.{Head, Forest, none, more, one, ◌&◌}
use Rattle.meaning.specs.Mentions.{mentions}
use Rattle.meaning.specs.Scoping.{Store}
use Rattle.meaning.specs.Walk.{is_static_block, Crumb, crumb, Spot, at, leaving, over, settle, plug, tree_at}
use Rattle.mentions.specs.Sums.{heads_of, named_by, named_++, named_heads}
use Rattle.representation.specs.Gap.Cells.{rows_of}
use Rattle.representation.specs.Spots.Spots.{open_line, open_rows_of, after_rows_of, opens_at, visited_at, rest_at}
use Rattle.representation.proofs.Counts.Rows.{heads, heads_++, heads_rows, heads_&}

-- ---- the open records

-- with what is done before each, from the outermost on
unfoldable pub open_heads : List Crumb → List Head
open_heads [] = []
open_heads (crumb h before after ∷ path) = open_heads path ++ (heads_of before ++ h ∷ [])

-- what comes after each, from the innermost on
unfoldable pub after_heads : List Crumb → List Head
after_heads [] = []
after_heads (crumb h before after ∷ path) = heads_of after ++ after_heads path

pub open_heads_lem : (path : List Crumb) (n left : ℕ) → heads (open_rows_of path n left) ≡ open_heads path
unfolding open_rows_of open_heads heads
open_heads_lem [] n left = refl
open_heads_lem (crumb h before after ∷ path) n left =
    let outer = open_rows_of path _ _ in
    heads_++ outer _
    ∙ ap₂ ◌++◌ (open_heads_lem path _ _) (heads_++ (rows_of before) (open_line h n (length outer) left ∷ []) ∙ ap (λ (hs : List Head). hs ++ h ∷ []) (heads_rows before))

after_heads_lem : (path : List Crumb) → heads (after_rows_of path) ≡ after_heads path
unfolding after_rows_of after_heads heads
after_heads_lem [] = refl
after_heads_lem (crumb h before after ∷ path) = heads_++ (rows_of after) (after_rows_of path) ∙ ap₂ ◌++◌ (heads_rows after) (after_heads_lem path)

-- ---- a spot

-- below a path, where some records are done and others to come
pub record Stands (done f : Forest) (path : List Crumb) (s : Spot) : Type 0 where
  pub visited : heads (visited_at s) ≡ open_heads path ++ heads_of done
  pub rest : heads (rest_at s) ≡ heads_of f ++ after_heads path

pub at_stands : (done : Forest) (h : Head) (k r : Forest) (path : List Crumb) (st : Store) → Stands done (more h k r) path (at done h k r path st)
unfolding visited_at rest_at opens_at
at_stands done h k r path st =
    record {
      visited = heads_++ (open_rows_of path _ _) (rows_of done) ∙ ap₂ ◌++◌ (open_heads_lem path _ _) (heads_rows done);
      rest = heads_++ (rows_of (more h k r)) (after_rows_of path) ∙ ap₂ ◌++◌ (heads_rows (more h k r)) (after_heads_lem path);
    }

pub leaving_stands : (kids : Forest) (h : Head) (before after : Forest) (path : List Crumb) (st : Store)
    → Stands kids none (crumb h before after ∷ path) (leaving kids h before after path st)
unfolding visited_at rest_at opens_at after_heads heads_of
leaving_stands kids h before after path st =
    record {
      visited =
          heads_++ (open_rows_of (crumb h before after ∷ path) _ _) (rows_of kids)
          ∙ ap₂ ◌++◌ (open_heads_lem (crumb h before after ∷ path) _ _) (heads_rows kids);
      rest = heads_++ (rows_of after) (after_rows_of path) ∙ ap₂ ◌++◌ (heads_rows after) (after_heads_lem path);
    }

pub over_stands : (tree : Forest) (st : Store) → Stands tree none [] (over tree st)
unfolding visited_at rest_at open_heads after_heads heads_of heads
over_stands tree st = record { visited = heads_rows tree; rest = refl }

-- a record that is left counts among those done
left_stands : (done : Forest) (h : Head) (before after : Forest) (path : List Crumb) (s : Spot) → Stands (before & one h done) after path s
    → Stands done none (crumb h before after ∷ path) s
unfolding open_heads after_heads heads_of
left_stands done h before after path s i =
    record {
      visited = i.visited ∙ ap (◌++◌ (open_heads path)) (heads_& before (one h done)) ∙ simp (append_assoc, append-nil);
      rest = i.rest;
    }

settle_if : (b : Bool) (done : Forest) (h : Head) (before after : Forest) (path : List Crumb) (st : Store) → is_static_block h ≡ b
    → Stands (before & one h done) after path (settle (before & one h done) after path st)
    → Stands done none (crumb h before after ∷ path)
    (if b then leaving done h before after path st else settle (before & one h done) after path st)
settle_if true done h before after path st e i = leaving_stands done h before after path st
settle_if false done h before after path st e i = left_stands done h before after path _ i

pub settle_stands : (path : List Crumb) (done f : Forest) (st : Store) → Stands done f path (settle done f path st)
unfolding settle
settle_stands [] done none st = over_stands done st
settle_stands [] done (more h k r) st = at_stands done h k r [] st
settle_stands (crumb h before after ∷ path) done none st =
    settle_if (is_static_block h) done h before after path st refl (settle_stands path (before & one h done) after st)
settle_stands (crumb h before after ∷ path) done (more h₁ k₁ r₁) st = at_stands done h₁ k₁ r₁ (crumb h before after ∷ path) st

-- ---- mentions

mentions_& : (y : ℕ) (f g : Forest) → mentions y (f & g) ≡ mentions y f + mentions y g
unfolding mentions ◌&◌
mentions_& y none g = omega arith
mentions_& y (more h k r) g = omega (arith, mentions_& y r g)

plug_mentions : (y : ℕ) (path : List Crumb) (f : Forest)
    → mentions y (plug f path) ≡ named_by y (open_heads path) + (mentions y f + named_by y (after_heads path))
unfolding plug open_heads after_heads named_by mentions
plug_mentions y [] f = omega arith
plug_mentions y (crumb h before after ∷ path) f =
    omega (
      arith,
      plug_mentions y path (before & more h f after),
      mentions_& y before (more h f after),
      named_++ y (open_heads path) (heads_of before ++ h ∷ []),
      named_++ y (heads_of before) (h ∷ []),
      named_++ y (heads_of after) (after_heads path),
      named_heads y before,
      named_heads y after,
    )

stands_mentions : (y : ℕ) {done f : Forest} {path : List Crumb} {s : Spot} (g : Forest) → Stands done f path s
    → mentions y g ≡ mentions y done + mentions y f
    → mentions y (plug g path) ≡ named_by y (heads (visited_at s)) + named_by y (heads (rest_at s))
stands_mentions y {done} {f} {path} g i e =
    rw (i.visited, i.rest)
    (omega (
      arith,
      plug_mentions y path g,
      named_++ y (open_heads path) (heads_of done),
      named_++ y (heads_of f) (after_heads path),
      named_heads y done,
      named_heads y f,
    ))

-- THE MENTIONS OF A SPOT'S TREE are those of its rows.
pub spot_mentions : (y : ℕ) (s : Spot) → mentions y (tree_at s) ≡ named_by y (heads (visited_at s)) + named_by y (heads (rest_at s))
unfolding tree_at plug mentions
spot_mentions y (at done h k r path st) =
    stands_mentions y (done & more h k r) (at_stands done h k r path st) (mentions_& y done (more h k r))
spot_mentions y (leaving kids h before after path st) = stands_mentions y kids (leaving_stands kids h before after path st) (omega arith)
spot_mentions y (over tree st) = stands_mentions y tree (over_stands tree st) (omega arith)
