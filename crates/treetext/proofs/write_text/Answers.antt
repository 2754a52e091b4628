-- The text of a file has at most four characters for each byte, and so has room.
use Rattle.std.proofs.Common.{rules, sym, length-take-le}
use Rattle.notation.specs.ShownBack.{shown_length}
use Rattle.treetext.proofs.write_text.Goals as goal

pub slice_bounds-text-end : goal.slice_bounds-text-end
slice_bounds-text-end g c = search (rules, shown_length c.args.file.now)

pub slice_bounds-write_all-end : goal.slice_bounds-write_all-end
slice_bounds-write_all-end g c =
    sym (length-take-le _ _ (search (rules, shown_length c.args.file.now)))
