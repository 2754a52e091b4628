-- THE CHANGED FILE IS READ: in the bytes of an accepted file one byte is the word, and with another word there they are read as the changed file.
-- Assumes nothing.
use Rattle.std.specs.Prelude.{Ok, ◌≡◌, List, ℕ, zero, suc, ◌+◌, ◌*◌, ◌≤◌, ◌<◌, length, set, replicate}
use Rattle.std.proofs.Math.Path.{refl}
use Rattle.std.proofs.Common.{sym, ap, subst, ◌∙◌, arith, length-set, get_or-set_same, get_or-set_other}
use Rattle.std.proofs.lemmas.List.{length-replicate}
use Rattle.meaning.specs.Tree.{Forest}
use Rattle.meaning.specs.File.{File}
use Rattle.meaning.specs.Mentions.{first_named, second_named, named, mentions}
use Rattle.meaning.specs.Reading.{read_file}
use Rattle.meaning.specs.Grammar.{two}
use Rattle.meaning.specs.declared.Place.TheVariants.{Settings, Program}
use Rattle.parsing.specs.Parsed.{Parsed, Levels, ParsedFile, AcceptedFile}
use Rattle.parsing.specs.Fields.{scopes_are, symbols_are}
use Rattle.parsing.specs.Files.{settings_are, file_accepted}
use Rattle.parsing.specs.Accepted.{parsed_accepted}
use Rattle.one_word_laws.specs.Changed.{WordChanged, here, behind, TreeChanged, in_list_lem, inside, beside, OneWord}
use Rattle.one_word_laws.proofs.Alike.{alike}
use Rattle.one_word_laws.proofs.SameBytes.{SameFrom, two_same, at_same}
use Rattle.one_word_laws.proofs.SameRows.{scopes_again, symbols_again, parent_again, scope_rows_again, symbol_rows_again, counts_again}
use Rattle.one_word_laws.proofs.Reparsed.{OtherWord, SameParents, tree_found}

-- ---- the tree has as many levels, and names the same symbols

module _ {d : Forest} where
  word_mentions : (y : ℕ) {t t' : Forest} → WordChanged d t t' → mentions y t ≡ mentions y t'
  unfolding mentions named first_named second_named
  word_mentions y (here u) = refl
  word_mentions y (behind w) = omega (arith, word_mentions y w)

  tree_mentions : (y : ℕ) {t t' : Forest} → TreeChanged d t t' → mentions y t ≡ mentions y t'
  unfolding mentions
  tree_mentions y (in_list_lem e w) = omega (arith, word_mentions y w)
  tree_mentions y (inside c) = omega (arith, tree_mentions y c)
  tree_mentions y (beside c) = omega (arith, tree_mentions y c)

  word_levels : (l : ℕ) {t t' : Forest} → WordChanged d t t' → Levels l t → Levels l t'
  word_levels zero (here u) p = p
  word_levels zero (behind w) p = p
  word_levels (suc l) (here u) p = p
  word_levels (suc l) (behind w) p = (p.0, word_levels (suc l) w p.1)

  tree_levels : (l : ℕ) {t t' : Forest} → TreeChanged d t t' → Levels l t → Levels l t'
  tree_levels zero (in_list_lem e w) p = p
  tree_levels zero (inside c) p = p
  tree_levels zero (beside c) p = p
  tree_levels (suc l) (in_list_lem e w) p = (word_levels l w p.0, p.1)
  tree_levels (suc l) (inside c) p = (tree_levels l c p.0, p.1)
  tree_levels (suc l) (beside c) p = (p.0, tree_levels (suc l) c p.1)

-- ---- the file

-- bytes in which one byte is the word's
other_word : (b : List ℕ) (q kind : ℕ) → q + 4 < length b → OtherWord b (set b (q + 4) kind) q kind
other_word b q kind l =
    record {
      long = sym (length-set b (q + 4) kind);
      same = λ j n. sym (get_or-set_other b (q + 4) j kind 0 n);
      word = get_or-set_same b (q + 4) kind 0 l;
    }

module _ (d : Forest) (f f' : File) (c : OneWord d f f') (b b' : List ℕ) (q kind : ℕ) (w : OtherWord b b' q kind) (p : ParsedFile b f)
    (behind_rows : p.root ≤ q) where
  same : SameFrom b b' 0 (p.root + 1)
  same j l u = w.same j (λ e. omega (arith, e))

  first_is : p.first ≡ 7 + 7 * p.scope_number_lem
  first_is = p.scope_rows.next_is

  root_is : p.root ≡ p.first + 13 * p.symbol_number_lem
  root_is = p.symbol_rows.next_is

  same_parents : SameParents b b' p.scope_number_lem
  same_parents s u = parent_again b b' w.long p.root same s (omega (arith, first_is, root_is))

  two_front : (j : ℕ) → j + 2 ≤ 7 → two b j ≡ two b' j
  two_front j u = two_same b b' 0 (p.root + 1) same j (omega arith) (omega (arith, first_is, root_is))

  file_again : Parsed b' p.symbol_number_lem (λ _. Program) 0 0 p.root (replicate p.scope_number_lem 0) f'.tree (length b) p.marks → ParsedFile b' f'
  file_again tree =
      let long = w.long in
      let scopes_read = scopes_again b b' long p.first (λ j l u. same j l (omega (arith, root_is))) 7 p.scope_number_lem p.scopes_read in
      let symbols_read = symbols_again b b' long p.root same p.scope_number_lem p.first p.symbol_number_lem p.symbols_read in
      let ends = p.symbol_rows.ends in
      let settings_end = (settings_are b p.settings).2 in
      record {
        scope_number_lem = p.scope_number_lem;
        symbol_number_lem = p.symbol_number_lem;
        first = p.first;
        root = p.root;
        marks = p.marks;
        small = omega (arith, p.small, long);
        settings = at_same b b' Settings 0 (p.root + 1) long same (omega (arith, settings_end, first_is, root_is)) p.settings;
        mode = sym c.mode ∙ p.mode ∙ two_front 3 (omega arith);
        esm = sym c.is_module ∙ p.esm ∙ two_front 5 (omega arith);
        mode_right = omega (arith, c.mode, p.mode_right);
        esm_right = omega (arith, c.is_module, p.esm_right);
        scopes_read = scopes_read;
        symbols_read = symbols_read;
        scope_rows = scopes_are b' 7 p.scope_number_lem p.first (omega (arith, long, first_is, root_is, ends)) scopes_read;
        symbol_rows = symbols_are b' p.scope_number_lem p.first p.symbol_number_lem p.root (omega (arith, long, root_is, ends)) symbols_read;
        scopes = sym c.scopes ∙ p.scopes ∙ scope_rows_again b b' long p.root same p.scope_number_lem 1 (omega (arith, first_is, root_is));
        symbols = sym c.symbols ∙ p.symbols ∙ symbol_rows_again b b' long p.root same p.symbol_number_lem p.first (omega (arith, root_is));
        scopes_many = ap length (sym c.scopes) ∙ p.scopes_many;
        symbols_many = ap length (sym c.symbols) ∙ p.symbols_many;
        tree =
            subst (λ (n : ℕ). Parsed b' p.symbol_number_lem (λ _. Program) 0 0 p.root (replicate p.scope_number_lem 0) f'.tree n p.marks)
            long tree;
        one_program = sym (alike c.tree).0 ∙ p.one_program;
        all_named = p.all_named;
        all_counted_lem =
            let same_counts =
            counts_again b b' long p.root same (λ y. mentions y f.tree) (λ y. mentions y f'.tree) (λ y. tree_mentions y c.tree)
            p.symbol_number_lem 1 p.first (omega (arith, root_is)) in
            omega (arith, p.all_counted_lem, same_counts);
      }

-- A WORD CHANGED IN AN ACCEPTED FILE, one byte, gives an accepted file.
pub word_read : (d : Forest) (f f' : File) (b : List ℕ) → OneWord d f f' → read_file b ≡ Ok f
    → (at : ℕ) × (kind : ℕ) × (read_file (set b at kind) ≡ Ok f')
word_read d f f' b c read =
    let accepted_file = file_accepted b f read in
    let p = accepted_file.parsed in
    let (q, kind, low, high, parsed) = tree_found b p.symbol_number_lem p.scope_number_lem c.tree (length-replicate p.scope_number_lem 0) p.tree in
    let w = other_word b q kind (omega arith) in
    let b' = set b (q + 4) kind in
    let tree = parsed b' w (same_parents d f f' c b b' q kind w p low) in
    let again : AcceptedFile b' f' = record { parsed = file_again d f f' c b b' q kind w p low tree; levels = tree_levels 64 c.tree accepted_file.levels } in
    (q + 4, kind, parsed_accepted b' f' again)
