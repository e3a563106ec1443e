use Rattle.std.proofs.Common.{◌≡◌, ◌+◌, ◌≤◌, List, [], length, Some, sym, ap, ◌∙◌, subst, arith, slice_get}
use Rattle.std.specs.Option.{option_copied, option_map_or}
use Rattle.module_arena.specs.Module.{Bytes}
use Rattle.module_arena.specs.View.{module_of}
use Rattle.extract_rules.specs.Calls.{called_in_entry}
use Rattle.extract_rules.specs.Selected.{is_among}
use Rattle.extract_rules.proofs.Adding.{adds_none}
use Rattle.extract_rules.proofs.Called.{looked_called}
use Rattle.extract_rules.proofs.Entries.{found_known, none_from}
use Rattle.extract_rules.proofs.Reaching.{Reaching, reaching_entry, reaching_all}
use Rattle.extract_rules.proofs.chosen.add_all_called.Goals as goal
use Rattle.extract_rules.proofs.chosen.add_all_called.Goals.{in-Some+in_ok-add_called_in_entry, in_default}

pub add_called_in_entry-requires-clause-known : goal.add_called_in_entry-requires-clause-known
add_called_in_entry-requires-clause-known c = found_known c.args.arena.now c.unwrap-name.result.now c.lookup.result c.in-Some.id c.lookup.ensures c.in-Some.is

pub loop-next-preserved : goal.loop-next-preserved
loop-next-preserved c =
    let a = c.args.arena.now in
    let m = module_of a in
    let x = c.unwrap-name.result.now in
    let at : slice_get c.loop-next.names.keys c.loop-next.next ≡ Some x = sym c.get_index.ensures.key ∙ ap option_copied c.unwrap-name.ensures in
    let told = looked_called a x c.lookup.result c.lookup.ensures in
    elim c.match-lookup.branch [
      | in-Some+in_ok-add_called_in_entry w ↦
          let more = called_in_entry a w.in-Some.id in
          let new : c.match-lookup.names.keys ≡ w.add_called_in_entry.new.names.keys = cc in
          subst (λ (ks : List Bytes). Reaching m c.args.names.now.keys (c.loop-next.next + 1) ks) (sym new)
          (reaching_entry m c.args.names.now.keys c.loop-next.next x c.loop-next.names.keys more w.add_called_in_entry.new.names.keys at w.in_ok-add_called_in_entry.ensures
          (λ n. sym (ap (λ o. is_among (option_map_or (called_in_entry a) o []) n) w.in-Some.is) ∙ told n) c.loop-next.invariant)
      | in_default w ↦
          let same : c.match-lookup.names.keys ≡ c.loop-next.names.keys = cc in
          subst (λ (ks : List Bytes). Reaching m c.args.names.now.keys (c.loop-next.next + 1) ks) (sym same)
          (reaching_entry m c.args.names.now.keys c.loop-next.next x c.loop-next.names.keys [] c.loop-next.names.keys at (adds_none c.loop-next.names.keys)
          (λ n. sym (ap (λ o. is_among (option_map_or (called_in_entry a) o []) n) (none_from c.lookup.result w.in_default.not-Some)) ∙ told n) c.loop-next.invariant)
    ]

pub returns : goal.returns
returns c =
    let end : length c.loop-next.names.keys ≤ c.loop-next.next = omega (arith, c.loop-next-test.false, c.len.ensures.len) in
    reaching_all (module_of c.args.arena.now) c.args.names.now.keys c.loop-next.next c.loop-next.names.keys end c.loop-next.invariant
