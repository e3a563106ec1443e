-- The module without entries is well formed and valid.
use Rattle.std.proofs.Common.{◌≡◌, refl, sym, subst}
use Rattle.module_arena.specs.Lists.{Lists, no_lists}
use Rattle.module_arena.specs.Valid.{IsValid}
use Rattle.module_arena.specs.View.{module_of}
use Rattle.module_arena.specs.WellFormed.{IsWellFormed}

nothing_well_formed : IsWellFormed (module_of no_lists)
unfolding module_of
nothing_well_formed = record {
  texts = refl;
  few = refl;
  struct_names = refl;
  global_names = refl;
  structs = refl;
  variables = refl;
  aliases = refl;
  functions = refl;
  constants = refl;
}

nothing_valid : IsValid (module_of no_lists)
unfolding module_of
nothing_valid = (refl, tt)

pub empty_well_formed : (a : Lists) → a ≡ no_lists → IsWellFormed (module_of a)
empty_well_formed a e = subst (λ (b : Lists). IsWellFormed (module_of b)) (sym e) nothing_well_formed

pub empty_valid : (a : Lists) → a ≡ no_lists → IsValid (module_of a)
empty_valid a e = subst (λ (b : Lists). IsValid (module_of b)) (sym e) nothing_valid
