-- One more definition takes the next abbreviation id.
use Rattle.std.proofs.Common.{◌≡◌, ℕ, ◌+◌, true, false, List, [], ◌∷◌, ◌++◌, length, Some, Ordering, Less, Equal, Greater, refl, ap, arith, length-append}
use Rattle.std.proofs.lemmas.Bool.{le-ltb, eq-eqb}
use Rattle.std.specs.Ordering.{nat_cmp}
use Rattle.std.specs.Map.{lookup, remove_entry}
use Rattle.std.specs.BTreeMap.{is_at, insert_entry}
use Rattle.bit_stream.specs.Abbreviation.{AdmittedAbbreviation}
use Rattle.bit_stream.specs.Scope.{Scope, given_to, give}
use Rattle.bit_stream.specs.Entry.{is_blockinfo, defined, given_for}
use Rattle.bit_stream.specs.Writer.{in_force}

same_number : (n : ℕ) → nat_cmp n n ≡ Equal
same_number n = rw (le-ltb n n (omega arith), eq-eqb n n refl) refl

-- what was put at a key is found there
found_there : {X : Type 0} (cmp : ℕ → ℕ → Ordering) → ((n : ℕ) → cmp n n ≡ Equal) → (id : ℕ) (v : X) (es : List (ℕ × X)) → lookup (is_at (cmp id)) (insert_entry cmp es id v) ≡ Some v
found_there cmp same id v [] = rw (same id) refl
found_there {X} cmp same id v (e ∷ es) = by_order (found_there cmp same id v es) (cmp id e.0) refl where
  by_order : lookup (is_at (cmp id)) (insert_entry cmp es id v) ≡ Some v → (o : Ordering) → cmp id e.0 ≡ o → lookup (is_at (cmp id)) (insert_entry cmp (e ∷ es) id v) ≡ Some v
  by_order more Less is = rw (is, same id) refl
  by_order more Equal is = rw (is, is) refl
  by_order more Greater is = rw (is, is) more

given_more : (table : List (ℕ × List AdmittedAbbreviation)) (id : ℕ) (t : AdmittedAbbreviation) → given_to (give table id t) id ≡ given_to table id ++ t ∷ []
given_more table id t = rw (found_there nat_cmp same_number id (given_to table id ++ t ∷ []) (remove_entry (is_at (nat_cmp id)) table)) refl

pub in_force_given : (s : Scope) (id : ℕ) (t : AdmittedAbbreviation) → is_blockinfo s ≡ true → s.block.target ≡ Some id → in_force (given_for s id t) ≡ in_force s + 1
in_force_given s id t info target = rw (info, target) (omega (arith, ap length (given_more s.given id t), length-append (given_to s.given id) (t ∷ [])))

pub in_force_defined : (s : Scope) (t : AdmittedAbbreviation) → is_blockinfo s ≡ false → in_force (defined s t) ≡ in_force s + 1
in_force_defined s t other = rw other (omega (arith, length-append s.block.own (t ∷ [])))
