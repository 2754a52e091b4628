-- Every definition of this crate by one name: a proof that computes says `unfolding computing`.
-- Assumes nothing.
use Rattle.meaning.specs.Tree.{◌&◌, count, size, flatten}
use Rattle.meaning.specs.Mentions.{first_named, second_named, named, mentions}
use Rattle.meaning.specs.File.{numbers_of, has_children, own_numbers, field_bytes, two_bytes, field, record_numbers, scope_fields, symbol_fields, record_fields, written}
use Rattle.meaning.specs.Grammar.{tags_of, forms_of, index, allowed, form_fits, two, number, field_of, field_at, scope_right, symbol_right, declaration_right, declarator_right, try_right, function_right, class_right, module_line_right, right, children_of, place_of, head_of, scope_of, parent_in, may_name, naming, unnamed}
use Rattle.meaning.specs.Reading.{read_list, read_forest, scope_at, symbol_at, read_rows, read_scopes, read_symbols, scopes_in, symbols_in, wrong_count, read_file}
use Rattle.meaning.specs.Scoping.{create_child_scope, change_scope_parent, set_scope_flags, insert_scope_between, move_scopes, insert_scope_below, create_symbol, move_binding, set_symbol_flags, move_bindings, set_flags_of, binds, last_binding, find_binding, is_block_scoped_or_class, is_among_bindings, block_scoped_in}
use Rattle.meaning.specs.Agreement.{names_scope, enclosing_scopes}
use Rattle.meaning.specs.Renumbering.{scope_named, named_scopes, place_from, with_scope, renumbered_tree, renumbered_scope, renumbered_symbol, renumbered}
use Rattle.meaning.specs.HelperLoader.{make_helper, load_runtime, load_external, is_first, helper_load}
use Rattle.meaning.specs.Statements.{is_using, is_await_using, any_using, any_await_using, wrap_initializer, wrap_initializers, as_taken_up, take_up, make_context, transform_statements, create_catch_clause, create_finally_block, create_try_stmt}
use Rattle.meaning.specs.Contexts.{transform_block_statement, enter_function_body, exit_static_block, transform_try_block, names_in, last_block_scope, any_part_using, move_catch_names, transform_try_parts, enter_try_statement, for_list, take_up_for, transform_for_statement, any_case_using, any_case_await_using, take_up_cases, transform_switch_statement}
use Rattle.meaning.specs.ForOf.{binds_identifier, bound_symbol, rebind, binds_name, for_of_act, insert_using, wrap_body, enter_for_of_statement}
use Rattle.meaning.specs.Program.{preserve_class_expression_name, transform_class_decl, bound_names, specifiers, top_level_class, top_level_declaration, exported_declaration, exported_class, default_class, as_expression, default_value, export_act, keeps_default, default_act, item_act, item_as, program_item, program_items, enter_program}
use Rattle.meaning.specs.Walk.{act_of, enter_as, enter, leave, is_over, current_scope, hoist_scope, settle, visit, visits, store_of, start, plug, tree_at, store_at, file_at}
use Rattle.meaning.specs.ImportLine.{import_due, with_import, completed, visit_call, visit_calls}
use Rattle.meaning.specs.Charges.{context_charge, line_charge, total, initializers, wraps, case_wraps, context_lines, act_lines, item_lines, body_lines, for_of_lines, own_lines, tree_lines, record_bytes, figures_in, figures_at, helper_lines, walk_figures, import_lines, final_figures}
use Rattle.meaning.specs.Due.{part_lines, enter_lines, rewrite_lines, is_context, any_context, due, dues, import_dues}
use Rattle.meaning.specs.Lowering.{check_mode, check_rows, check_output, check_file, admit, admit_output, last_spot, final_spot, lowered_file, lower}
use Rattle.meaning.specs.Notation.{field_from, fields_from, bytes}

unfoldable pub computing : Unit {0}
unfolding ◌&◌ count size flatten first_named second_named named mentions numbers_of has_children own_numbers field_bytes two_bytes field record_numbers scope_fields symbol_fields record_fields written tags_of forms_of index allowed form_fits two number field_of field_at scope_right symbol_right declaration_right declarator_right try_right function_right class_right module_line_right right children_of place_of head_of scope_of parent_in may_name naming unnamed read_list read_forest scope_at symbol_at read_rows read_scopes read_symbols scopes_in symbols_in wrong_count read_file create_child_scope change_scope_parent set_scope_flags insert_scope_between move_scopes insert_scope_below create_symbol move_binding set_symbol_flags move_bindings set_flags_of binds last_binding find_binding is_block_scoped_or_class is_among_bindings block_scoped_in names_scope enclosing_scopes scope_named named_scopes place_from with_scope renumbered_tree renumbered_scope renumbered_symbol renumbered make_helper load_runtime load_external is_first helper_load is_using is_await_using any_using any_await_using wrap_initializer wrap_initializers as_taken_up take_up make_context transform_statements create_catch_clause create_finally_block create_try_stmt transform_block_statement enter_function_body exit_static_block transform_try_block names_in last_block_scope any_part_using move_catch_names transform_try_parts enter_try_statement for_list take_up_for transform_for_statement any_case_using any_case_await_using take_up_cases transform_switch_statement binds_identifier bound_symbol rebind binds_name insert_using wrap_body enter_for_of_statement preserve_class_expression_name transform_class_decl bound_names specifiers top_level_class top_level_declaration exported_declaration exported_class default_class as_expression default_value export_act keeps_default default_act item_act item_as program_item program_items enter_program for_of_act act_of enter_as enter leave is_over current_scope hoist_scope settle visit visits store_of start plug tree_at store_at file_at import_due with_import completed visit_call visit_calls context_charge line_charge total initializers wraps case_wraps context_lines act_lines item_lines body_lines for_of_lines own_lines tree_lines record_bytes figures_in figures_at helper_lines walk_figures import_lines final_figures part_lines enter_lines rewrite_lines is_context any_context due dues import_dues check_mode check_rows check_output check_file admit admit_output last_spot final_spot lowered_file lower field_from fields_from bytes
computing = tt
