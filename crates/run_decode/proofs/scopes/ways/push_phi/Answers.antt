use Rattle.std.proofs.Common.{[], Option, IfSome, map, sym, ap, ◌∙◌, arith, subst}
use Rattle.std.specs.Option.{option_map_or}
use Rattle.std.proofs.lemmas.List.{length-map}
use Rattle.module_arena.specs.declared.entry.Block.{Block}
use Rattle.module_arena.specs.declared.instruction.Value.{Value}
use Rattle.module_arena.specs.Lists.{function_blocks}
use Rattle.module_arena.specs.View.{local_view}
use Rattle.type_table.specs.Types.{tree}
use Rattle.std.proofs.Common.{Some}
use Rattle.run_rules.specs.Resolve.{incoming_from, moves_to}
use Rattle.run_rules.specs.Scope.{value_in}
use Rattle.run_decode.specs.Scopes.Scopes.{HasValueAt, incoming_of, label_of, scope_in, to_of, value_of}
use Rattle.run_decode.specs.Scopes.Ways.{GainsMoves}
use Rattle.run_decode.proofs.OnScopes.Answered.{on_also}
use Rattle.run_decode.proofs.OnScopes.Wayed.{comes_in, entry_has, moves_none, moves_same}
use Rattle.run_decode.proofs.scopes.ways.push_phi.Goals as goal

pub push_entry-requires-clause-value : goal.push_entry-requires-clause-value
push_entry-requires-clause-value c =
    let s = c.args.scope.now in
    subst (λ (o : Option Value). IfSome o (HasValueAt s c.args.phi.1)) (sym c.in-Some.ensures) (entry_has s c.args.phi.1 c.args.from c.args.incoming.now c.requires.phi.entries)

pub returns-in-Some : goal.returns-in-Some
returns-in-Some c =
    let s = c.args.scope.now in
    let a = s.lists in
    let f = s.function in
    let t = tree a.table c.args.phi.1 in
    let to = to_of s (Some c.args.phi.0) in
    let count = length-map (function_blocks f) (λ (b : Block). local_view b.name) in
    let here = c.requires.from in
    let same = ap (λ (o : Option Value). option_map_or (λ (v : Value). value_in (scope_in a f) t (value_of a f v)) o []) c.in-Some.ensures ∙ sym (comes_in s c.args.phi.1 t c.args.from c.requires.apart (omega (arith, count, here)) c.args.incoming.now c.requires.phi.entries) in
    on_also c.push_entry.result (GainsMoves c.args.into.now.items c.push_entry.new.into.items (moves_to to (value_in (scope_in a f) t (value_of a f c.in-Some.value))))
    (GainsMoves c.args.into.now.items c.push_entry.new.into.items (moves_to to (incoming_from (scope_in a f) (label_of a f c.args.from) t (map (incoming_of a f) c.args.incoming.now)))) c.push_entry.ensures
    (λ h. moves_same c.args.into.now.items c.push_entry.new.into.items _ _ (ap (moves_to to) same) h)

pub returns-in-None : goal.returns-in-None
returns-in-None c =
    let s = c.args.scope.now in
    let a = s.lists in
    let f = s.function in
    let t = tree a.table c.args.phi.1 in
    let count = length-map (function_blocks f) (λ (b : Block). local_view b.name) in
    let here = c.requires.from in
    let same = comes_in s c.args.phi.1 t c.args.from c.requires.apart (omega (arith, count, here)) c.args.incoming.now c.requires.phi.entries ∙ ap (λ (o : Option Value). option_map_or (λ (v : Value). value_in (scope_in a f) t (value_of a f v)) o []) (sym c.in-None.ensures) in
    moves_none c.args.into.now.items _ (ap (moves_to (to_of s (Some c.args.phi.0))) same)
