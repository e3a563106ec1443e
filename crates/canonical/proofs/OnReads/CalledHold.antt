-- What the parameters, blocks and results of canonical text are called is new, and numbers stand in order.
use Rattle.std.specs.Prelude.{◌≡◌, refl, ◌+◌, ◌==◌, Bool, true, false, not, cond, bytes_eq, List, [], ◌∷◌, ◌++◌, map, is_some, Option, Some, None, option_map}
use Rattle.std.specs.List.{list_any}
use Rattle.std.specs.Option.{option_to_list}
use Rattle.std.proofs.Common.{ap, sym, subst, ◌∙◌, add-one, append_assoc}
use Rattle.std.proofs.lemmas.Bool.{and_parts, and_from, or_parts, or_from, not-true, not_from_false}
use Rattle.std.proofs.lemmas.List.{map-append}
use Rattle.std.proofs.lemmas.List.Folds.{list_any-append}
use Rattle.ir_base.specs.declared.place.Place.{Place}
use Rattle.ir_tables.specs.Table.{is_distinct}
use Rattle.ir_terminals.specs.declared.values.PlacedName.{PlacedName}
use Rattle.type_table.specs.Tree.{Tree, int, ptr, void, array, struct, named}
use Rattle.module_arena.specs.Module.{Bytes, LocalName, Named, Numbered, Operation, BinaryOperation, Compare, Convert, Select, Freeze, Phi, Load, Store, Alloca, GetElementPtr, Call, ExtractValue, InsertValue}
use Rattle.module_arena.specs.Same.{same_local}
use Rattle.module_arena.specs.TypeTests.{is_void}
use Rattle.module_arena.specs.Forms.{has_result_of_phrase}
use Rattle.module_arena.specs.Names.{is_numbered_from}
use Rattle.canonical.specs.Items.Unplaced.{nowhere}
use Rattle.canonical.specs.Items.Parts.{name_tree, local_tree, type_tree, operation_tree, instruction_tree}
use Rattle.name_rules.specs.Locals.{Announced, gives, announced_result}
use Rattle.name_rules.specs.Locals.{is_void as written_is_void}
use Rattle.name_rules.specs.Demand.{place_of_name, is_first}
use Rattle.name_rules.specs.FunctionDemands.{Called, called_with, called_after, call_demands}
use Rattle.canonical.proofs.OnReads.Asked.{Held, held_none, held_more}

abbrev pub named_of : PlacedName → LocalName
named_of n = Named n.name

-- the names to come are none of those before, and of them no two are the same; the numbers go on from the next one
pub record IsFresh (before : Called) (rest : List LocalName) : Type 0 where
  pub ordered : is_numbered_from before.next rest ≡ true
  pub apart : is_distinct same_local (map named_of before.names ++ rest) ≡ true

distinct_parts : (x : LocalName) (xs : List LocalName) → is_distinct same_local (x ∷ xs) ≡ true → (list_any (same_local x) xs ≡ false) × (is_distinct same_local xs ≡ true)
distinct_parts x xs e =
    let p = and_parts (not (list_any (same_local x) xs)) (is_distinct same_local xs) e in
    (not-true (list_any (same_local x) xs) p.0, p.1)

none_called_so : (ns : List PlacedName) (x : Bytes) (rest : List LocalName) → is_distinct same_local (map named_of ns ++ Named x ∷ rest) ≡ true → place_of_name ns x ≡ None
none_called_so [] x rest e = refl
none_called_so (n ∷ ns) x rest e =
    let p = distinct_parts (Named n.name) (map named_of ns ++ Named x ∷ rest) e in
    let q = or_parts (list_any (same_local (Named n.name)) (map named_of ns)) (list_any (same_local (Named n.name)) (Named x ∷ rest)) (sym (list_any-append (same_local (Named n.name)) (map named_of ns) (Named x ∷ rest)) ∙ p.0) in
    let r = or_parts (bytes_eq n.name x) (list_any (same_local (Named n.name)) rest) q.1 in
    ap (λ b. cond b (Some n.place) (place_of_name ns x)) r.0 ∙ none_called_so ns x rest p.1

distinct_without : (xs : List LocalName) (y : LocalName) (ys : List LocalName) → is_distinct same_local (xs ++ y ∷ ys) ≡ true → is_distinct same_local (xs ++ ys) ≡ true
distinct_without [] y ys e = (distinct_parts y ys e).1
distinct_without (x ∷ xs) y ys e =
    let p = distinct_parts x (xs ++ y ∷ ys) e in
    let q = or_parts (list_any (same_local x) xs) (list_any (same_local x) (y ∷ ys)) (sym (list_any-append (same_local x) xs (y ∷ ys)) ∙ p.0) in
    let r = or_parts (same_local x y) (list_any (same_local x) ys) q.1 in
    and_from (not (list_any (same_local x) (xs ++ ys))) (is_distinct same_local (xs ++ ys))
    (not_from_false (list_any (same_local x) (xs ++ ys)) (list_any-append (same_local x) xs ys ∙ or_from (list_any (same_local x) xs) (list_any (same_local x) ys) q.0 r.1))
    (distinct_without xs y ys p.1)

first_holds : (place : Place) (o : Option Place) → o ≡ None → Held (is_first place o)
first_holds place o e = subst (λ p. Held (is_first place p)) (sym e) held_none

pub call_holds : (before : Called) (name : LocalName) (rest : List LocalName) → IsFresh before (name ∷ rest) → Held (call_demands before (Some (local_tree name)))
call_holds before (Named x) rest f = first_holds nowhere (place_of_name before.names x) (none_called_so before.names x rest f.apart)
call_holds before (Numbered k) rest f = held_more (and_parts (k == before.next) (is_numbered_from (before.next + 1) rest) f.ordered).0 held_none

pub fresh_behind : (before : Called) (name : LocalName) (b : Bool) (rest : List LocalName) → IsFresh before (name ∷ rest) → IsFresh (called_with before (b, Some (local_tree name))) rest
fresh_behind before (Named x) b rest f = record {
  ordered = f.ordered;
  apart = ap (λ l. is_distinct same_local (l ++ rest)) (map-append named_of before.names (name_tree x ∷ [])) ∙ ap (is_distinct same_local) (append_assoc (map named_of before.names) (Named x ∷ []) rest) ∙ f.apart;
}
fresh_behind before (Numbered k) b rest f = record {
  ordered = ap (λ n. is_numbered_from n rest) (sym (add-one before.next)) ∙ (and_parts (k == before.next) (is_numbered_from (before.next + 1) rest) f.ordered).1;
  apart = distinct_without (map named_of before.names) (Numbered k) rest f.apart;
}

pub after_both : (c : Called) (xs ys : List Announced) → called_after c (xs ++ ys) ≡ called_after (called_after c xs) ys
after_both c [] ys = refl
after_both c (x ∷ xs) ys = after_both (called_with c x) xs ys

-- ---- results

gives_none : (o : Operation) → has_result_of_phrase o false ≡ true → gives (operation_tree o) ≡ false
gives_none (BinaryOperation code set left right) e = absurd cc
gives_none (Compare set p left right) e = absurd cc
gives_none (Convert code set value to) e = absurd cc
gives_none (Select a b c) e = absurd cc
gives_none (Freeze v) e = absurd cc
gives_none (Phi ty incoming) e = absurd cc
gives_none (Load set ty a n) e = absurd cc
gives_none (Store set v a n) e = refl
gives_none (Alloca ty c n) e = absurd cc
gives_none (GetElementPtr set s o os) e = absurd cc
gives_none (Call s v os) e = by s.returns e
  where
    by : (t : Tree) → is_void t ≡ true → not (written_is_void (type_tree t)) ≡ false
    by void h = refl
    by (int w) h = absurd cc
    by ptr h = absurd cc
    by (array n t) h = absurd cc
    by (struct packed ts) h = absurd cc
    by (named name) h = absurd cc
gives_none (ExtractValue v ns) e = absurd cc
gives_none (InsertValue v p ns) e = absurd cc

-- the result of an instruction, where it has one
pub result_holds : (before : Called) (r : Option LocalName) (o : Operation) (rest : List LocalName) → has_result_of_phrase o (is_some r) ≡ true → IsFresh before (option_to_list r ++ rest)
    → Held (call_demands before (option_map local_tree r)) × IsFresh (called_after before (announced_result (instruction_tree (record { result = r; operation = o })))) rest
result_holds before None o rest e f = (held_none, subst (λ b. IsFresh (called_after before (cond b ((false, None) ∷ []) [])) rest) (sym (gives_none o e)) f)
result_holds before (Some name) o rest e f = (call_holds before name rest f, fresh_behind before name false rest f)
