-- There is room for the next entry, and its name is free; and once it is declared the next one is to come.
use Rattle.std.proofs.Common.{◌≡◌, ℕ, zero, suc, ◌+◌, ◌≤◌, true, false, Bool, ◌&&◌, ◌||◌, List, [], ◌∷◌, ◌++◌, map, length, take, drop, filter_map, Option, Some, None, refl, sym, subst, ap, ap₂, ◌∙◌, nat_lt, nat_le, bytes_eq, arith}
use Rattle.std.specs.List.{list_all, list_any, cons_option}
use Rattle.std.specs.Option.{option_map}
use Rattle.std.specs.Prelude.{slice_get}
use Rattle.std.proofs.lemmas.Bool.{and_parts, both_ways, leb-true, le-ltb, or_left, or_right, or_from}
use Rattle.std.proofs.lemmas.List.{length-append, length-map, length_push, take-append-drop}
use Rattle.std.proofs.lemmas.Option.{same_Some, none-some, slice_get-map}
use Rattle.std.proofs.lemmas.List.Elements.{filter_map-append}
use Rattle.type_table.specs.Types.{structs}
use Rattle.module_arena.specs.declared.entry.Alias as the_alias
use Rattle.module_arena.specs.declared.entry.Function as the_function
use Rattle.module_arena.specs.declared.entry.GlobalId.{GlobalId}
use Rattle.module_arena.specs.declared.entry.GlobalId.TheVariants as global
use Rattle.module_arena.specs.declared.entry.Variable as the_variable
use Rattle.module_arena.specs.Known.{Counts, counted_aliases, first_excess}
use Rattle.module_arena.specs.Lists.{Lists, global_name, name_at}
use Rattle.module_arena.specs.Module.{Bytes, Variable, Alias, Function, Module}
use Rattle.module_arena.specs.View.{module_of, variable_view, alias_view, function_view, constants_of}
use Rattle.module_arena.specs.WellFormed.{is_good_type, is_good_variable, count_for_aliases, alias_count, IsWellFormed}
use Rattle.type_table.specs.Types.{trees}
use Rattle.linkage_rules.specs.Entries.{same_symbol}
use Rattle.linkage_rules.specs.Symbols.{symbols}
use Rattle.linkage_rules.specs.Winner.{home}
use Rattle.linkage_rules.specs.Globals.{Global, OfVariable, OfFunction, OfAlias, name_of}
use Rattle.linkage_rules.specs.Ids.{modules}
use Rattle.linkage_rules.specs.SymbolLaws.{name_self, name_exact, symbol_self, symbol_exact}
use Rattle.linkage_rules.specs.declared.symbol.Symbol.{Symbol}
use Rattle.linkage_rules.proofs.Lists.{other_way}
use Rattle.linkage_rules.proofs.Steps.{take_more, map_step}
use Rattle.link_rules.specs.Linked.{variable_if, function_if, alias_if, linked, linked_globals, link_result}
use Rattle.link_rules.specs.Rename.{renaming}
use Rattle.link_rules.proofs.Apart.{Apart, none_at, has_at}
use Rattle.link_rules.proofs.Merged.{keys, names, linked_name}
use Rattle.link_rules.specs.Carried.{IsSymbol}
use Rattle.item_build.specs.Types.Declarations.{IsFree, AreFew}
use Rattle.entry_copy.specs.Tables.{Tables}
use Rattle.link_rules.proofs.Agreed.{nothing_mapped}
use Rattle.module_linker.specs.Stages.Declared.{bare, with_global, with_globals, ids_from}
use Rattle.module_linker.specs.Stages.Ground.{HaveTypes, ground}
use Rattle.module_linker.specs.Stages.Parts.{CanLink}
use Rattle.module_linker.specs.Entries.Room.{IsDeclaring, HasGoodType, HasRoom, one_more}
use Rattle.module_linker.specs.Entries.Step.{IsDeclared, next_id}
use Rattle.module_linker.proofs.OnEntries.Joined.{with_one_more, id_behind, ids_one_more}

-- ---- counts

-- the first entries have no more of a kind than all
no_more : {B : Type 0} (f : Global → Option B) (k : ℕ) (gs : List Global) → length (filter_map f (take k gs)) ≤ length (filter_map f gs)
no_more f k gs =
    let whole = ap (λ l. length (filter_map f l)) (sym (take-append-drop k gs)) ∙ ap length (filter_map-append f (take k gs) (drop k gs)) ∙ length-append (filter_map f (take k gs)) (filter_map f (drop k gs)) in
    omega (arith, whole)

-- the next is one of those
one_fewer : {B : Type 0} (f : Global → Option B) (k : ℕ) (gs : List Global) (g : Global) (x : B) → slice_get gs k ≡ Some g → f g ≡ Some x → length (filter_map f (take k gs)) + 1 ≤ length (filter_map f gs)
one_fewer f k gs g x at is =
    let one : filter_map f (take (k + 1) gs) ≡ filter_map f (take k gs) ++ x ∷ [] = ap (filter_map f) (take_more gs k g at) ∙ filter_map-append f (take k gs) (g ∷ []) ∙ ap (λ o. filter_map f (take k gs) ++ cons_option o []) is in
    let many = ap length one ∙ length_push (filter_map f (take k gs)) x in
    let less = no_more f (k + 1) gs in
    omega (arith, many, less)

-- what is counted of aliases grows with all of them
counted_less : (v f a w g b : ℕ) → v ≤ w → f ≤ g → a ≤ b → counted_aliases a v f ≤ counted_aliases b w g
counted_less v f zero w g b lv lf la = omega arith
counted_less v f (suc a) w g zero lv lf la = absurd (omega (arith, la))
counted_less v f (suc a) w g (suc b) lv lf la = omega (arith, lv, lf, la)

-- counts within the limits have no excess
none_past : (n : Counts) → n.variables ≤ 262144 → n.functions ≤ 262144 → counted_aliases n.aliases n.variables n.functions ≤ 262144 → first_excess n ≡ None
none_past n v f a = rw (not_past n.variables v, not_past n.functions f, not_past (counted_aliases n.aliases n.variables n.functions) a) refl
  where
    not_past : (k : ℕ) → k ≤ 262144 → nat_lt 262144 k ≡ false
    not_past k h = le-ltb 262144 k h

-- There are at most so many of each kind.
record AreWithin (n : Counts) : Type 0 where
  pub variables : n.variables ≤ 262144
  pub functions : n.functions ≤ 262144
  pub aliases : counted_aliases n.aliases n.variables n.functions ≤ 262144

-- and so have fewer
fewer_none_past : (n m : Counts) → n.variables ≤ m.variables → n.functions ≤ m.functions → n.aliases ≤ m.aliases → AreWithin m → first_excess n ≡ None
fewer_none_past n m v f a h =
    let mv = h.variables in
    let mf = h.functions in
    let ma = h.aliases in
    none_past n (omega (arith, v, mv)) (omega (arith, f, mf))
    (let less = counted_less n.variables n.functions n.aliases m.variables m.functions m.aliases v f a in omega (arith, less, ma))

same_count : (xs : List Alias) (vs : List Variable) (fs : List Function) → count_for_aliases xs vs fs ≡ counted_aliases (length xs) (length vs) (length fs)
same_count [] vs fs = refl
same_count (x ∷ xs) vs fs = refl

abbrev counts_in : Module → Counts
counts_in m = record { variables = length m.variables; aliases = length m.aliases; functions = length m.functions }

-- a well-formed module has no more of each kind
within : (m : Module) → IsWellFormed m → AreWithin (counts_in m)
within m w =
    let one = and_parts (nat_le (length m.structs) 262144) (nat_le (length m.variables) 262144 && (nat_le (length m.functions) 262144 && nat_le (alias_count m) 262144)) w.few in
    let two = and_parts (nat_le (length m.variables) 262144) (nat_le (length m.functions) 262144 && nat_le (alias_count m) 262144) one.1 in
    let three = and_parts (nat_le (length m.functions) 262144) (nat_le (alias_count m) 262144) two.1 in
    record {
      variables = leb-true (length m.variables) 262144 two.0;
      functions = leb-true (length m.functions) 262144 three.0;
      aliases = subst (λ n. n ≤ 262144) (same_count m.aliases m.variables m.functions) (leb-true (alias_count m) 262144 three.1);
    }

-- ---- names

-- the name at a place is none of those before it
free_at : (ns : List Bytes) (k : ℕ) (n : Bytes) → Apart bytes_eq ns → slice_get ns k ≡ Some n → list_any (bytes_eq n) (take k ns) ≡ false
free_at [] k n a h = cc
free_at (m ∷ ns) zero n a h = refl
free_at (m ∷ ns) (suc k) n a h =
    or_from _ _ (other_way bytes_eq name_self name_exact m n (none_at (bytes_eq m) ns k n a.0 h)) (free_at ns k n a.1 h)

-- one of a kind has the name of an entry
module _ {B : Type 0} (f : Global → Option B) (own : B → Bytes) (called : (g : Global) (x : B) → f g ≡ Some x → own x ≡ name_of g) where
  found : (gs : List Global) (id : ℕ) (n : Bytes) → option_map own (slice_get (filter_map f gs) id) ≡ Some n → list_any (bytes_eq n) (map name_of gs) ≡ true
  found [] id n h = cc
  found (g ∷ gs) id n h = go (f g) refl id h (found gs)
    where
      go : (o : Option B) → f g ≡ o → (id : ℕ) → option_map own (slice_get (cons_option o (filter_map f gs)) id) ≡ Some n
          → ((id : ℕ) (n : Bytes) → option_map own (slice_get (filter_map f gs) id) ≡ Some n → list_any (bytes_eq n) (map name_of gs) ≡ true)
          → (bytes_eq n (name_of g) || list_any (bytes_eq n) (map name_of gs)) ≡ true
      go None is id h more = or_right (bytes_eq n (name_of g)) _ (more id n h)
      go (Some x) is zero h more = or_left _ _ (subst (λ m. bytes_eq n m ≡ true) (sym (same_Some (own x) n h) ∙ called g x is) (name_self n))
      go (Some x) is (suc id) h more = or_right (bytes_eq n (name_of g)) _ (more id n h)

bare_names : (gs : List Global) → map name_of (map bare gs) ≡ map name_of gs
bare_names [] = refl
bare_names (OfVariable v ∷ gs) = ap (λ l. v.name ∷ l) (bare_names gs)
bare_names (OfFunction f ∷ gs) = ap (λ l. f.name ∷ l) (bare_names gs)
bare_names (OfAlias x ∷ gs) = ap (λ l. x.name ∷ l) (bare_names gs)

map_take : {A B : Type 0} (f : A → B) (k : ℕ) (xs : List A) → map f (take k xs) ≡ take k (map f xs)
map_take f zero xs = refl
map_take f (suc k) [] = refl
map_take f (suc k) (x ∷ xs) = ap (λ l. f x ∷ l) (map_take f k xs)

variable_called : (g : Global) (x : Variable) → variable_if g ≡ Some x → x.name ≡ name_of g
variable_called (OfVariable v) x e = ap (λ (w : Variable). w.name) (sym (same_Some v x e))
variable_called (OfFunction f) x e = cc
variable_called (OfAlias y) x e = cc

function_called : (g : Global) (x : Function) → function_if g ≡ Some x → x.name ≡ name_of g
function_called (OfVariable v) x e = cc
function_called (OfFunction f) x e = ap (λ (w : Function). w.name) (sym (same_Some f x e))
function_called (OfAlias y) x e = cc

alias_called : (g : Global) (x : Alias) → alias_if g ≡ Some x → x.name ≡ name_of g
alias_called (OfVariable v) x e = cc
alias_called (OfFunction f) x e = cc
alias_called (OfAlias y) x e = ap (λ (w : Alias). w.name) (sym (same_Some y x e))

-- what an arena calls an entry, its module does
module _ {X Y : Type 0} (view : X → Y) (own : X → Bytes) (named : Y → Bytes) (same : (x : X) → named (view x) ≡ own x) where
  seen_called : (xs : List X) (id : ℕ) (n : Bytes) → option_map own (slice_get xs id) ≡ Some n → option_map named (slice_get (map view xs) id) ≡ Some n
  seen_called xs id n h = ap (option_map named) (slice_get-map view xs id) ∙ go (slice_get xs id) h
    where
      go : (o : Option X) → option_map own o ≡ Some n → option_map named (option_map view o) ≡ Some n
      go None e = cc
      go (Some x) e = ap Some (same x) ∙ e

-- ---- the lists of an arena

variables_in : (b : Lists) → (module_of b).variables ≡ map (variable_view (trees b.table) (constants_of b)) b.variables
unfolding module_of
variables_in b = refl

functions_in : (b : Lists) → (module_of b).functions ≡ map (function_view (trees b.table) (constants_of b)) b.functions
unfolding module_of
functions_in b = refl

aliases_in : (b : Lists) → (module_of b).aliases ≡ map (alias_view (trees b.table) (name_at b)) b.aliases
unfolding module_of
aliases_in b = refl

bare_variables : (gs : List Global) → length (filter_map variable_if (map bare gs)) ≡ length (filter_map variable_if gs)
bare_variables [] = refl
bare_variables (OfVariable v ∷ gs) = ap suc (bare_variables gs)
bare_variables (OfFunction f ∷ gs) = bare_variables gs
bare_variables (OfAlias x ∷ gs) = bare_variables gs

bare_functions : (gs : List Global) → length (filter_map function_if (map bare gs)) ≡ length (filter_map function_if gs)
bare_functions [] = refl
bare_functions (OfVariable v ∷ gs) = bare_functions gs
bare_functions (OfFunction f ∷ gs) = ap suc (bare_functions gs)
bare_functions (OfAlias x ∷ gs) = bare_functions gs

bare_aliases : (gs : List Global) → length (filter_map alias_if (map bare gs)) ≡ length (filter_map alias_if gs)
bare_aliases [] = refl
bare_aliases (OfVariable v ∷ gs) = bare_aliases gs
bare_aliases (OfFunction f ∷ gs) = bare_aliases gs
bare_aliases (OfAlias x ∷ gs) = ap suc (bare_aliases gs)

-- ---- types

good_at : (p : Variable → Bool) (gs : List Global) (k : ℕ) (v : Variable) → list_all p (filter_map variable_if gs) ≡ true → slice_get gs k ≡ Some (OfVariable v) → p v ≡ true
good_at p [] k v all h = cc
good_at p (OfVariable w ∷ gs) zero v all h = let one = same_Some (OfVariable w) (OfVariable v) h in let same : w ≡ v = cc in subst (λ u. p u ≡ true) same (and_parts (p w) (list_all p (filter_map variable_if gs)) all).0
good_at p (OfVariable w ∷ gs) (suc k) v all h = good_at p gs k v (and_parts (p w) (list_all p (filter_map variable_if gs)) all).1 h
good_at p (OfFunction f ∷ gs) zero v all h = cc
good_at p (OfFunction f ∷ gs) (suc k) v all h = good_at p gs k v all h
good_at p (OfAlias x ∷ gs) zero v all h = cc
good_at p (OfAlias x ∷ gs) (suc k) v all h = good_at p gs k v all h

-- ---- the next entry

names_are : (ms : List Module) → map name_of (linked_globals ms) ≡ map (λ row. row.1) (renaming ms)
names_are ms = go (renaming ms)
  where
    go : (rows : List (Symbol × Bytes)) → map name_of (map (linked ms) rows) ≡ map (λ row. row.1) rows
    go [] = refl
    go (r ∷ rows) = ap₂ (λ n l. n ∷ l) (linked_name ms r.0 r.1 (home ms r.0)) (go rows)

module _ (parts : List Lists) (tables : List Tables) (k : ℕ) (b : Lists) (h : IsDeclaring parts k b tables) where
  abbrev gs : List Global
  gs = linked_globals (modules parts)

  abbrev so_far : List Global
  so_far = take k gs

  variables_are : length b.variables ≡ length (filter_map variable_if so_far)
  variables_are =
      let mapped = length-map b.variables (variable_view (trees b.table) (constants_of b)) in
      let listed = ap length (sym (variables_in b) ∙ ap (λ (m : Module). m.variables) h.joined) ∙ bare_variables so_far in
      sym mapped ∙ listed

  functions_are : length b.functions ≡ length (filter_map function_if so_far)
  functions_are =
      let mapped = length-map b.functions (function_view (trees b.table) (constants_of b)) in
      let listed = ap length (sym (functions_in b) ∙ ap (λ (m : Module). m.functions) h.joined) ∙ bare_functions so_far in
      sym mapped ∙ listed

  aliases_are : length b.aliases ≡ length (filter_map alias_if so_far)
  aliases_are =
      let mapped = length-map b.aliases (alias_view (trees b.table) (name_at b)) in
      let listed = ap length (sym (aliases_in b) ∙ ap (λ (m : Module). m.aliases) h.joined) ∙ bare_aliases so_far in
      sym mapped ∙ listed

  -- each entry has the name of one that was declared
  called : (x : GlobalId) (n : Bytes) → global_name b x ≡ Some n → list_any (bytes_eq n) (map name_of (map bare so_far)) ≡ true
  called (global.Variable id) n e =
      found variable_if (λ (w : Variable). w.name) variable_called (map bare so_far) id n
      (ap (λ l. option_map (λ (w : Variable). w.name) (slice_get l id)) (sym (sym (variables_in b) ∙ ap (λ (m : Module). m.variables) h.joined))
      ∙ seen_called (variable_view (trees b.table) (constants_of b)) (λ (w : the_variable.Variable). w.name) (λ (w : Variable). w.name) (λ w. refl) b.variables id n e)
  called (global.Function id) n e =
      found function_if (λ (w : Function). w.name) function_called (map bare so_far) id n
      (ap (λ l. option_map (λ (w : Function). w.name) (slice_get l id)) (sym (sym (functions_in b) ∙ ap (λ (m : Module). m.functions) h.joined))
      ∙ seen_called (function_view (trees b.table) (constants_of b)) (λ (w : the_function.Function). w.name) (λ (w : Function). w.name) (λ w. refl) b.functions id n e)
  called (global.Alias id) n e =
      found alias_if (λ (w : Alias). w.name) alias_called (map bare so_far) id n
      (ap (λ l. option_map (λ (w : Alias). w.name) (slice_get l id)) (sym (sym (aliases_in b) ∙ ap (λ (m : Module). m.aliases) h.joined))
      ∙ seen_called (alias_view (trees b.table) (name_at b)) (λ (w : the_alias.Alias). w.name) (λ (w : Alias). w.name) (λ w. refl) b.aliases id n e)

  module _ (g : Global) (at : slice_get gs k ≡ Some g) where
    free : IsFree b (name_of g)
    free x e =
        both_ways _
        (free_at (map name_of gs) k (name_of g) (subst (Apart bytes_eq) (sym (names_are (modules parts))) (names (modules parts))) (slice_get-map name_of gs k ∙ ap (option_map name_of) at))
        (subst (λ l. list_any (bytes_eq (name_of g)) l ≡ true) (bare_names so_far ∙ map_take name_of k gs) (called x (name_of g) e))

    module _ (can : CanLink (modules parts)) where
      limits : AreWithin (counts_in (link_result (modules parts)))
      limits = within (link_result (modules parts)) can.whole

      few : (y : Global) → slice_get gs k ≡ Some y → AreFew (one_more b y)
      few (OfVariable v) e =
          let vs = variables_are in let fs = functions_are in let xs = aliases_are in
          let one = one_fewer variable_if k gs (OfVariable v) v e refl in let f = no_more function_if k gs in let x = no_more alias_if k gs in
          fewer_none_past (one_more b (OfVariable v)) (counts_in (link_result (modules parts))) (omega (arith, vs, one)) (omega (arith, fs, f)) (omega (arith, xs, x)) limits
      few (OfFunction u) e =
          let vs = variables_are in let fs = functions_are in let xs = aliases_are in
          let one = one_fewer function_if k gs (OfFunction u) u e refl in let v = no_more variable_if k gs in let x = no_more alias_if k gs in
          fewer_none_past (one_more b (OfFunction u)) (counts_in (link_result (modules parts))) (omega (arith, vs, v)) (omega (arith, fs, one)) (omega (arith, xs, x)) limits
      few (OfAlias y) e =
          let vs = variables_are in let fs = functions_are in let xs = aliases_are in
          let one = one_fewer alias_if k gs (OfAlias y) y e refl in let v = no_more variable_if k gs in let f = no_more function_if k gs in
          fewer_none_past (one_more b (OfAlias y)) (counts_in (link_result (modules parts))) (omega (arith, vs, v)) (omega (arith, fs, f)) (omega (arith, xs, one)) limits

      good : (y : Global) → slice_get gs k ≡ Some y → HasGoodType (structs b.table) y
      good (OfVariable v) e =
          let all = good_at (is_good_variable (link_result (modules parts))) gs k v can.whole.variables e in
          subst (λ ss. is_good_type ss v.ty ≡ true) (sym h.types.structs) (and_parts (is_good_type (link_result (modules parts)).structs v.ty) _ all).0
      good (OfFunction u) e = tt
      good (OfAlias y) e = tt

      pub room : HasRoom b g
      room = record { free = free; few = few g at; good = good g at }

    -- once it is declared
    module _ (now : Lists) (id : GlobalId) (d : IsDeclared parts b now tables g id) where
      pub declaring_on : IsDeclaring parts (k + 1) now tables
      declaring_on = record {
        types = d.types;
        joined =
            d.joined ∙ ap (λ m. with_global m (bare g)) h.joined ∙ sym (with_one_more (ground (modules parts)) (map bare so_far) (bare g))
            ∙ ap (with_globals (ground (modules parts))) (sym (map_step bare gs k g at));
        untargeted = d.untargeted h.untargeted;
      }

      next_is : (y : Global) → next_id b y ≡ id_behind 0 0 0 so_far y
      next_is (OfVariable v) = let vs = variables_are in let e : length b.variables ≡ 0 + length (filter_map variable_if so_far) = omega (arith, vs) in ap global.Variable e
      next_is (OfFunction f) = let fs = functions_are in let e : length b.functions ≡ 0 + length (filter_map function_if so_far) = omega (arith, fs) in ap global.Function e
      next_is (OfAlias x) = let xs = aliases_are in let e : length b.aliases ≡ 0 + length (filter_map alias_if so_far) = omega (arith, xs) in ap global.Alias e

      pub ids_on : (ids more : List GlobalId) → ids ≡ ids_from 0 0 0 so_far → more ≡ ids ++ id ∷ [] → more ≡ ids_from 0 0 0 (take (k + 1) gs)
      ids_on ids more old pushed =
          pushed ∙ ap₂ (λ l x. l ++ x ∷ []) old (d.next ∙ next_is g) ∙ sym (ids_one_more 0 0 0 so_far g) ∙ ap (ids_from 0 0 0) (sym (take_more gs k g at))

-- ---- rows

row_at : (rows : List (Symbol × Bytes)) (k : ℕ) (s : Symbol) (m : Bytes) → slice_get (map (λ r. r.0) rows) k ≡ Some s → slice_get (map (λ r. r.1) rows) k ≡ Some m → slice_get rows k ≡ Some (s, m)
row_at [] k s m h e = cc
row_at (r ∷ rows) zero s m h e = λ i. Some (same_Some r.0 s h i, same_Some r.1 m e i)
row_at (r ∷ rows) (suc k) s m h e = row_at rows k s m h e

module _ (ms : List Module) (ss : List Symbol) (ns : List Bytes) (are : ss ≡ symbols ms) (called : ns ≡ map (λ row. row.1) (renaming ms)) where
  module _ (k : ℕ) (s : Symbol) (m : Bytes) (at : slice_get ss k ≡ Some s) (named : slice_get ns k ≡ Some m) where
    pub linked_at : slice_get (linked_globals ms) k ≡ Some (linked ms (s, m))
    linked_at =
        slice_get-map (linked ms) (renaming ms) k
        ∙ ap (option_map (linked ms)) (row_at (renaming ms) k s m (ap (λ l. slice_get l k) (keys ms ∙ sym are) ∙ at) (ap (λ l. slice_get l k) (sym called) ∙ named))

    pub is_symbol : IsSymbol ms s
    is_symbol = has_at same_symbol symbol_self symbol_exact (symbols ms) k s (ap (λ l. slice_get l k) (sym are) ∙ at)

  pub as_many_names : length ns ≡ length ss
  as_many_names =
      let one = length-map (renaming ms) (λ (row : Symbol × Bytes). row.1) in
      let other = length-map (renaming ms) (λ (row : Symbol × Bytes). row.0) in
      ap length called ∙ one ∙ sym other ∙ ap length (keys ms) ∙ sym (ap length are)

  pub as_many_globals : length (linked_globals ms) ≡ length ss
  as_many_globals =
      let one = length-map (renaming ms) (linked ms) in
      let other = length-map (renaming ms) (λ (row : Symbol × Bytes). row.0) in
      one ∙ sym other ∙ ap length (keys ms) ∙ sym (ap length are)

-- ---- before the first entry

pub none_declared : (parts : List Lists) (tables : List Tables) (b : Lists) → HaveTypes parts b tables → module_of b ≡ ground (modules parts) → IsDeclaring parts 0 b tables
none_declared parts tables b types is = record {
  types = types;
  joined = is;
  untargeted = λ id x le e.
      let none : b.aliases ≡ [] = nothing_mapped (alias_view (trees b.table) (name_at b)) b.aliases (sym (aliases_in b) ∙ ap (λ (m : Module). m.aliases) is) in
      absurd (none-some x (ap (λ xs. slice_get xs id) (sym none) ∙ e));
}
