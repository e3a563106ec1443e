-- The end of the module's block: all entries are declared, and the arena has what was read.
use Rattle.std.proofs.Common.{◌≡◌, ◌<◌, ◌+◌, ◌-◌, ℕ, zero, suc, Bool, true, false, cond, List, [], ◌∷◌, ◌++◌, length, get_or, map, is_some, nat_eq, nat_lt, inl, refl, sym, ap, subst, ◌∙◌, arith, append-nil}
use Rattle.std.specs.Prelude.{Ok, Err}
use Rattle.std.proofs.lemmas.Bool.{ltb-false, ltb-true}
use Rattle.std.proofs.lemmas.List.{length-append, length-map}
use Rattle.module_arena.specs.declared.entry.Alias as the_alias
use Rattle.module_arena.specs.declared.entry.Function as the_function
use Rattle.module_arena.specs.declared.entry.GlobalId.TheVariants as global
use Rattle.module_arena.specs.declared.entry.Variable as the_variable
use Rattle.module_arena.specs.Lists.{Lists}
use Rattle.module_arena.specs.Module.{Bytes}
use Rattle.record_table.specs.Faults.{Answer, Records, BadRecord, a_block, a_record, no_more}
use Rattle.record_table.specs.Fields.{Texts}
use Rattle.record_table.specs.Records as records
use Rattle.record_table.specs.Records.{at_first, block_in, ended, first_due, module_from, names_of, record_in}
use Rattle.type_read.specs.declared.arena.counts.GlobalCounts.{GlobalCounts}
use Rattle.type_read.specs.Arena.Numbered.{IsGlobal}
use Rattle.bitcode_read.specs.Head.Ahead.{AreCounted}
use Rattle.record_law.proofs.OnFormed.Good.{AreTexts}
use Rattle.record_law.proofs.OnFormed.Records.{block_step, record_step, then_ok}
use Rattle.record_law.proofs.OnFormed.Sofar.{IsSoFar, aliases_named, functions_named, variables_named}
use Rattle.bitcode_read.specs.Sofar.{AreCalled, AreDeclared}

-- ---- what the definitions say of all that was read

module _ (t : Texts) (are : AreTexts t) (all : Records) where
  first_so_far : (at : ℕ) → IsSoFar t all all (at_first t at all)
  first_so_far at = record {
    texts_are = refl;
    targets_are = refl;
    globals_are = refl;
    named = record { variables = refl; functions = refl; aliases = refl };
    distinct = refl;
    texts_good = record { source = tt; layout = tt; triple = tt };
    few = record { variables = omega arith; functions = omega arith; aliases = inl refl };
    good = λ m of. record { variables = tt; functions = tt; aliases = tt };
    early = λ less. record { variables = refl; functions = refl; aliases = refl };
    alone = λ less. refl;
    late = λ more. absurd (omega (arith, more));
  }

  ended_same : (s u : records.Sofar) → ended s ≡ Ok u → s ≡ u
  ended_same s u e = by (nat_eq s.last 0) (nat_lt s.last 5) (is_some (first_due s.functions)) e
    where
      by : (b c d : Bool) → cond {A = Answer records.Sofar} b (Err (BadRecord 8 s.at 5)) (cond {A = Answer records.Sofar} c (Err (BadRecord 17 s.at 5)) (cond {A = Answer records.Sofar} d (Err (BadRecord 12 s.at 5)) (Ok s))) ≡ Ok u → s ≡ u
      by true c d e = absurd (cc)
      by false true d e = absurd (cc)
      by false false true e = absurd (cc)
      by false false false e = cc

  from_so_far : (s u : records.Sofar) (rest : Records) → IsSoFar t all rest s → module_from s rest ≡ Ok u → IsSoFar t all no_more u
  from_so_far s u no_more h e = subst (IsSoFar t all no_more) (ended_same s u e) h
  from_so_far s u (a_block id inside behind) h e = by (λ v h e. from_so_far v u behind h e)
    where
      by : ((v : records.Sofar) → IsSoFar t all behind v → module_from v behind ≡ Ok u → IsSoFar t all no_more u) → IsSoFar t all no_more u
      by others = let x = then_ok (block_in s id inside) (λ v. module_from v behind) u e in others x.0 (block_step t are all s x.0 id inside behind h x.1.0) x.1.1
  from_so_far s u (a_record code operands behind) h e = by (λ v h e. from_so_far v u behind h e)
    where
      by : ((v : records.Sofar) → IsSoFar t all behind v → module_from v behind ≡ Ok u → IsSoFar t all no_more u) → IsSoFar t all no_more u
      by others = let x = then_ok (record_in s code operands) (λ v. module_from v behind) u e in others x.0 (record_step t are all s x.0 code operands behind h x.1.0) x.1.1

  pub whole_so_far : (at : ℕ) (u : records.Sofar) → module_from (at_first t at all) all ≡ Ok u → IsSoFar t all no_more u
  whole_so_far at u e = from_so_far (at_first t at all) u all (first_so_far at) e

-- ---- all entries are declared

get_left : {A : Type 0} (xs ys : List A) (i : ℕ) (d : A) → i < length xs → get_or (xs ++ ys) i d ≡ get_or xs i d
get_left [] ys i d lt = absurd (omega arith)
get_left (x ∷ xs) ys zero d lt = refl
get_left (x ∷ xs) ys (suc i) d lt = get_left xs ys i d (omega arith)

get_right : {A : Type 0} (xs ys : List A) (i : ℕ) (d : A) → get_or (xs ++ ys) (length xs + i) d ≡ get_or ys i d
get_right [] ys i d = ap (λ n. get_or ys n d) (none i)
  where
    none : (i : ℕ) → 0 + i ≡ i
    none i = omega arith
get_right (x ∷ xs) ys i d = ap (λ n. get_or (x ∷ (xs ++ ys)) n d) (one (length xs) i) ∙ get_right xs ys i d
  where
    one : (n i : ℕ) → suc n + i ≡ suc (n + i)
    one n i = omega arith

module _ (t : Texts) (all : Records) (s : records.Sofar) (n : GlobalCounts) (a : Lists) (h : IsSoFar t all no_more s) (counted : AreCounted t all n) (c : AreCalled a s) where
  abbrev V : List Bytes
  V = map (λ (v : the_variable.Variable). v.name) a.variables

  abbrev F : List Bytes
  F = map (λ (f : the_function.Function). f.name) a.functions

  abbrev X : List Bytes
  X = map (λ (x : the_alias.Alias). x.name) a.aliases

  variables_are : names_of t 5 all ≡ V
  variables_are = h.named.variables ∙ (append-nil (variables_named s) ∙ sym c.variables)

  functions_are : names_of t 6 all ≡ F
  functions_are = h.named.functions ∙ (append-nil (functions_named s) ∙ sym c.functions)

  aliases_are : names_of t 7 all ≡ X
  aliases_are = h.named.aliases ∙ (append-nil (aliases_named s) ∙ sym c.aliases)

  globals_are : s.k.globals ≡ (V ++ F) ++ X
  globals_are =
      h.globals_are ∙ ((λ j. h.targets_are j ++ names_of t 7 all) ∙ (λ j. (variables_are j ++ functions_are j) ++ aliases_are j))

  many_variables : n.variables ≡ length V
  many_variables = counted.variables ∙ ap length variables_are

  many_functions : n.functions ≡ length F
  many_functions = counted.functions ∙ ap length functions_are

  many_aliases : n.aliases ≡ length X
  many_aliases = counted.aliases ∙ ap length aliases_are

  v_long : length V ≡ length a.variables
  v_long = length-map a.variables (λ (v : the_variable.Variable). v.name)

  f_long : length F ≡ length a.functions
  f_long = length-map a.functions (λ (f : the_function.Function). f.name)

  x_long : length X ≡ length a.aliases
  x_long = length-map a.aliases (λ (x : the_alias.Alias). x.name)

  is_variable : (i : ℕ) → i < n.variables → IsGlobal a (global.Variable i) (get_or s.k.globals i [])
  is_variable i lt =
      let many = many_variables in
      let both = length-append V F in
      record {
        known = let long = v_long in omega (arith, lt, many, long);
        named = sym (ap (λ l. get_or l i []) globals_are ∙ (get_left (V ++ F) X i [] (omega (arith, lt, many, both)) ∙ get_left V F i [] (omega (arith, lt, many))));
      }

  is_function : (i : ℕ) → i < n.functions → IsGlobal a (global.Function i) (get_or s.k.globals (n.variables + i) [])
  is_function i lt =
      let many = many_functions in
      let first = many_variables in
      let both = length-append V F in
      record {
        known = let long = f_long in omega (arith, lt, many, long);
        named = sym (ap (λ l. get_or l (n.variables + i) []) globals_are ∙ (get_left (V ++ F) X (n.variables + i) [] (omega (arith, lt, many, first, both)) ∙ (ap (λ k. get_or (V ++ F) (k + i) []) first ∙ get_right V F i [])));
      }

  is_alias : (i : ℕ) → i < n.aliases → IsGlobal a (global.Alias i) (get_or s.k.globals (n.variables + n.functions + i) [])
  is_alias i lt =
      let many = many_aliases in
      let first = many_variables in
      let second = many_functions in
      let both = length-append V F in
      let place : n.variables + n.functions ≡ length (V ++ F) = omega (arith, first, second, both) in
      record {
        known = let long = x_long in omega (arith, lt, many, long);
        named = sym (ap (λ l. get_or l (n.variables + n.functions + i) []) globals_are ∙ (ap (λ k. get_or ((V ++ F) ++ X) (k + i) []) place ∙ get_right (V ++ F) X i []));
      }

  pub all_declared : AreDeclared a n s.k
  all_declared index lt = by (nat_lt index n.variables) (nat_lt index (n.variables + n.functions)) refl refl
    where
      name : Bytes
      name = get_or s.k.globals index []

      long : length s.k.globals ≡ n.variables + n.functions + n.aliases
      long =
          let e = ap length globals_are in
          let one = length-append (V ++ F) X in
          let two = length-append V F in
          let v = many_variables in
          let f = many_functions in
          let x = many_aliases in
          omega (arith, e, one, two, v, f, x)

      by : (v f : Bool) → nat_lt index n.variables ≡ v → nat_lt index (n.variables + n.functions) ≡ f → IsGlobal a (cond v (global.Variable index) (cond f (global.Function (index - n.variables)) (global.Alias (index - n.variables - n.functions)))) (get_or s.k.globals index [])
      by true f ev ef = is_variable index (ltb-true index n.variables ev)
      by false true ev ef =
          let ge = ltb-false index n.variables ev in
          let less = ltb-true index (n.variables + n.functions) ef in
          let same : n.variables + (index - n.variables) ≡ index = omega (arith, ge) in
          subst (λ i. IsGlobal a (global.Function (index - n.variables)) (get_or s.k.globals i [])) same (is_function (index - n.variables) (omega (arith, ge, less)))
      by false false ev ef =
          let ge = ltb-false index (n.variables + n.functions) ef in
          let all_long = long in
          let same : n.variables + n.functions + (index - n.variables - n.functions) ≡ index = omega (arith, ge) in
          subst (λ i. IsGlobal a (global.Alias (index - n.variables - n.functions)) (get_or s.k.globals i [])) same (is_alias (index - n.variables - n.functions) (omega (arith, ge, lt, all_long)))
