-- What was put from nothing on.
use Rattle.std.proofs.Common.{◌≡◌, ◌⊎◌, inl, inr, ℕ, ◌≤◌, List, [], true, false, Option, Some, None, refl, sym, append-nil, ap}
use Rattle.ir_base.specs.Outside.{Added, Rose}
use Rattle.ir_printer.specs.Gathered.Told.{state, Says}
use Rattle.ir_printer.proofs.OnPhrases.Printing.{rose_further, rose_later}

-- nothing is added
none_added : (start : Option (List ℕ)) → Added start start []
none_added None = refl
none_added (Some old) = ap Some (sym (append-nil old))

-- nothing was put yet
pub at_first : (start : Option (List ℕ)) (faults : ℕ) → Says start (state (record { held = []; failed = false }) start faults) []
at_first start faults = record { written = []; is = refl; added = none_added start }

never : false ≡ true → ⊥
never e = cc

-- a write failed on the way or at the end
pub rose_somewhere : (a b c : ℕ) (failed : _) → a ≤ b → b ≤ c → (failed ≡ true → (false ≡ true) ⊎ Rose a b) → (failed ≡ true) ⊎ Rose b c → Rose a c
rose_somewhere a b c failed on_the_way at_the_end cause (inr rose) = rose_later a b c on_the_way rose
rose_somewhere a b c failed on_the_way at_the_end cause (inl is) = by_way (cause is)
  where
    by_way : (false ≡ true) ⊎ Rose a b → Rose a c
    by_way (inl e) = absurd (never e)
    by_way (inr rose) = rose_further a b c at_the_end rose
