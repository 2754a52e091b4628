-- `figures::final_figures` meets its contract. Assumes nothing.
use Rattle.figures.proofs.Laws.{final_is}
use Rattle.figures.proofs.final_figures.Goals as goal

pub returns : goal.returns
returns c =
    final_is _ _
    (record {
      are_contexts = c.contexts_of-contexts.ensures.value;
      is_helper = c.helper_of-h.ensures.value;
      is_import = c.import_of-i.ensures.value;
      context_bytes_lem = c.context_bytes.ensures.value;
      for_of_bytes_lem = c.for_of_bytes.ensures.value;
      item_bytes = c.item_bytes.ensures.value;
      context_records = c.context_records.ensures.value;
      for_of_records_lem = c.for_of_records.ensures.value;
      item_records = c.item_records.ensures.value;
      new_scopes_lem = c.new_scopes.ensures.value;
      context_symbols_lem = c.context_symbols.ensures.value;
      item_symbols_lem = c.item_symbols.ensures.value;
    })
