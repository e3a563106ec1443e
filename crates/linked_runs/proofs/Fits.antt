-- Parts that are well formed and valid, and have no conflict, can be linked.
use Rattle.std.proofs.Common.{◌≡◌, ℕ, List, None, flat_map}
use Rattle.std.specs.List.{list_all, AllByRecursion}
use Rattle.std.proofs.lemmas.Bool.{and_parts}
use Rattle.module_arena.specs.Functions.{blocks}
use Rattle.module_arena.specs.Module.{Function, Module}
use Rattle.module_arena.specs.Valid.{IsValid}
use Rattle.module_arena.specs.WellFormed.{IsWellFormed, types_of_alias, is_good_type, known_of_variable, known_of_block, is_good_constant}
use Rattle.linkage_rules.specs.Conflicts.{first_conflict}
use Rattle.linkage_rules.specs.Entries.{part_at, entries}
use Rattle.linkage_rules.specs.Globals.{globals}
use Rattle.linkage_rules.proofs.Entries.{all_follow}
use Rattle.linked_runs.proofs.Known.{IsKnown, AppendsLists, Fit}
use Rattle.linked_runs.proofs.Alike.{append_alike}
use Rattle.link_rules.proofs.Asked.{aliases_suit}
use Rattle.linked_runs.proofs.Asked.{append_lists}
use Rattle.linked_runs.proofs.KnownBodies.{variable_known, function_known}
use Rattle.link_rules.proofs.KnownTypes.{structs_fine}
use Rattle.link_rules.proofs.Searches.{all_both}
use Rattle.linked_runs.proofs.NamesUsed.{entry_used}
use Rattle.link_rules.proofs.Parts.{all_true, all_halves, all_flat_true, entries_by, globals_all}
use Rattle.link_rules.proofs.Targets.{target_defined}
use Rattle.link_rules.proofs.NamesKnown.{name_known}
use Rattle.link_rules.proofs.Carrying.{all_distinct, together}

module _ (parts : List Module) (formed : AllByRecursion IsWellFormed parts) (valid : AllByRecursion IsValid parts) (none : first_conflict parts ≡ None) where
  part_known : (i : ℕ) → IsWellFormed (part_at parts i) × IsValid (part_at parts i) → AllByRecursion (IsKnown parts i) (globals (part_at parts i))
  part_known i w =
      let constants = all_halves (is_good_constant (part_at parts i)) (flat_map known_of_variable (part_at parts i).variables) (flat_map (λ f. flat_map known_of_block (blocks f)) (part_at parts i).functions) w.0.constants in
      globals_all (IsKnown parts i) (part_at parts i)
      (all_follow _ _ (part_at parts i).variables (λ v h. variable_known parts i v h.0 h.1)
      (all_both _ _ (part_at parts i).variables (all_true _ (part_at parts i).variables w.0.variables) (all_flat_true (is_good_constant (part_at parts i)) known_of_variable (part_at parts i).variables constants.0)))
      (all_follow _ _ (part_at parts i).functions (λ f h. function_known parts i f h.0 h.1)
      (all_both _ _ (part_at parts i).functions (all_true _ (part_at parts i).functions w.0.functions) (all_flat_true (is_good_constant (part_at parts i)) (λ (f : Function). flat_map known_of_block (blocks f)) (part_at parts i).functions constants.1)))
      (all_follow _ _ (part_at parts i).aliases (λ a h. (name_known parts i a.target (and_parts (list_all (is_good_type (part_at parts i).structs) (types_of_alias a.ty)) _ h.0).1, target_defined parts (together parts formed valid none) i a h.1))
      (all_both _ _ (part_at parts i).aliases (all_true _ (part_at parts i).aliases w.0.aliases) (aliases_suit (part_at parts i) w.1)))

  known : AllByRecursion (λ e. IsKnown parts e.part e.global) (entries parts)
  known = entries_by (λ m. IsWellFormed m × IsValid m) (IsKnown parts) parts (all_both IsWellFormed IsValid parts formed valid) part_known

  pub fits : Fit parts
  fits = record {
    together = together parts formed valid none;
    structs = structs_fine parts formed;
    known = known;
    names = all_follow _ _ (entries parts) (λ e h. entry_used parts e.part e.global h) known;
    appended = entries_by IsValid AppendsLists parts valid (λ i v. append_lists i (part_at parts i) v);
    alike = append_alike parts (all_distinct parts formed) none;
  }
