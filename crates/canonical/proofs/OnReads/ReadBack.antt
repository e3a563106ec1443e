-- Canonical text is read as its module, and as nothing else, where the module can be written and its items stand for it.
use Rattle.std.specs.Prelude.{◌≡◌, refl, nat_le, Bool, true, false, ◌&&◌, List, [], ◌∷◌, length, Option, None}
use Rattle.std.proofs.Common.{ap, sym, subst, ◌∙◌}
use Rattle.std.proofs.lemmas.Bool.{and_parts}
use Rattle.module_arena.specs.Known.{counted_aliases}
use Rattle.module_arena.specs.Module.{Variable, Alias, Function, Module}
use Rattle.module_arena.specs.WellFormed.{has_few_entries, count_for_aliases, alias_count}
use Rattle.canonical.specs.Canonical.{canon}
use Rattle.canonical.specs.Items.Items.{canon_items, HasItemsAs}
use Rattle.canonical.proofs.OnLaw.WholeTexts.{items_are_read}
use Rattle.canonical.proofs.OnModules.ReadsOnly.{reads_only}
use Rattle.canonical.proofs.OnModules.Modules.{module_back}
use Rattle.canonical.proofs.OnModules.Places.{module_unseen}
use Rattle.module_arena.specs.declared.fault.CountKind.TheVariants as kinds
use Rattle.name_rules.specs.declared.fault.ResolveFault.{ResolveFault}
use Rattle.name_rules.specs.ModuleOf.{module_of_items}
use Rattle.name_rules.specs.Demand.{first_refusal, first_there}
use Rattle.name_rules.specs.Breaks.{no_more, too_many, demands}
use Rattle.name_rules.specs.Reads.{Reads}
use Rattle.canonical.specs.Reads.Laws.{IsGoodModule, IsWritten, IsUnbroken, IsReadBack, IsTheirOwn}
use Rattle.canonical.proofs.OnReads.Asks.{AsksForNothing}
use Rattle.canonical.proofs.OnReads.Exact.{StandsForItself}
use Rattle.canonical.proofs.OnReads.UnseenItems.{unasked}

-- the count of what a module has
abbrev counted : Module → Option ResolveFault
counted m =
    no_more kinds.Structs (length m.structs)
    (no_more kinds.Variables (length m.variables)
    (no_more kinds.Functions (length m.functions)
    (no_more kinds.Aliases (counted_aliases (length m.aliases) (length m.variables) (length m.functions)) None)))

no_more_of : (b : Bool) (fault further : Option ResolveFault) → b ≡ true → further ≡ None → elim b as (λ _. Option ResolveFault) [ true ↦ further | false ↦ fault ] ≡ None
no_more_of true fault further e f = f
no_more_of false fault further e f = absurd cc

same_count : (as_ : List Alias) (vs : List Variable) (fs : List Function) → count_for_aliases as_ vs fs ≡ counted_aliases (length as_) (length vs) (length fs)
same_count [] vs fs = refl
same_count (a ∷ as_) vs fs = refl

few : (m : Module) → has_few_entries m ≡ true → counted m ≡ None
few m e =
    let a = and_parts (nat_le (length m.structs) 262144) (nat_le (length m.variables) 262144 && (nat_le (length m.functions) 262144 && nat_le (alias_count m) 262144)) e in
    let b = and_parts (nat_le (length m.variables) 262144) (nat_le (length m.functions) 262144 && nat_le (alias_count m) 262144) a.1 in
    let c = and_parts (nat_le (length m.functions) 262144) (nat_le (alias_count m) 262144) b.1 in
    no_more_of (nat_le (length m.structs) 262144) _ _ a.0 (no_more_of (nat_le (length m.variables) 262144) _ _ b.0 (no_more_of (nat_le (length m.functions) 262144) _ _ c.0
    (no_more_of (nat_le (counted_aliases (length m.aliases) (length m.variables) (length m.functions)) 262144) _ _ (ap (λ n. nat_le n 262144) (sym (same_count m.aliases m.variables m.functions)) ∙ c.1) refl)))

pub unbroken : StandsForItself → AsksForNothing → IsUnbroken
unbroken stands asks m sound =
    let counts : too_many (canon_items m) ≡ None = ap counted (module_back m (stands m sound)) ∙ few m sound.well_formed.few in
    λ i. first_there (counts i) (asks m sound i)

module _ (written : IsWritten) (stands : StandsForItself) (asks : AsksForNothing) where
  read : (m : Module) → IsGoodModule m → Reads (canon m) m
  read m sound =
      let items : HasItemsAs (canon m) (canon_items m) = items_are_read m (written m sound) in
      let joined : module_of_items items.placed ≡ m = sym (module_unseen items.placed) ∙ ap module_of_items items.same ∙ module_back m (stands m sound) in
      let counts : too_many items.placed ≡ None = ap counted joined ∙ few m sound.well_formed.few in
      let asked : first_refusal (demands items.placed) ≡ None = unasked items.placed (subst (λ xs. first_refusal (demands xs) ≡ None) (sym items.same) (asks m sound)) in
      record { items = items.placed; has_items = items.has; resolves = record { unbroken = λ i. first_there (counts i) (asked i); joined = sym joined } }

  pub read_back : IsReadBack
  read_back m sound n = (λ h. reads_only m n (written m sound) (stands m sound) h, λ e. subst (Reads (canon m)) (sym e) (read m sound))

  pub their_own : IsTheirOwn
  their_own m n sound also e = reads_only n m (written n also) (stands n also) (subst (λ text. Reads text m) e (read m sound))
