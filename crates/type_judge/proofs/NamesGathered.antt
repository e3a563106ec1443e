-- The names of variables, aliases and functions, gathered one by one.
use Rattle.std.specs.Prelude.{◌≡◌, refl, Bool, true, false, not, ◌||◌, ◌&&◌, List, [], ◌∷◌, ◌++◌, map, filter_map, bytes_eq, if◌then◌else◌}
use Rattle.std.specs.Borrow.{Bor}
use Rattle.std.specs.List.{list_any}
use Rattle.std.proofs.Common.{ap, sym, subst, ◌∙◌}
use Rattle.std.proofs.lemmas.Bool.{and_parts}
use Rattle.std.proofs.lemmas.Slice.Eq.{bytes_eq-Decides}
use Rattle.std.proofs.lemmas.List.Folds.{list_any-append}
use Rattle.std.proofs.lemmas.List.Elements.{filter_map-append}
use Rattle.indexmap.specs.IndexSet.{insert_key}
use Rattle.ir_tables.specs.Table.{is_distinct}
use Rattle.ir_terminals.specs.declared.values.PlacedName.{PlacedName}
use Rattle.ir_syntax.specs.Tree.{ItemTree}
use Rattle.module_arena.specs.Module.{Bytes}
use Rattle.name_rules.specs.Breaks.{global_name}
use Rattle.name_rules.specs.TypeDemands.{has_name}
use Rattle.type_judge.specs.Gathered.{AreGlobals, AreNames, global_names}
use Rattle.type_judge.specs.declared.known.GlobalNames.{GlobalNames}

pub same_both : (a b : Bytes) → bytes_eq a b ≡ bytes_eq b a
same_both a b = by (bytes_eq a b) refl (bytes_eq b a) refl
  where
    by : (x : Bool) → bytes_eq a b ≡ x → (y : Bool) → bytes_eq b a ≡ y → x ≡ y
    by true e true q = refl
    by false e false q = refl
    by true e false q = let r = (bytes_eq-Decides b a).1 (sym ((bytes_eq-Decides a b).0 e)) in absurd cc
    by false e true q = let r = (bytes_eq-Decides a b).1 (sym ((bytes_eq-Decides b a).0 q)) in absurd cc

-- one name more
pub names_more : (keys : List (Bor Bytes)) (names : List Bytes) (key : Bor Bytes) → AreNames keys names → AreNames (insert_key (λ (a b : Bor Bytes). bytes_eq a.now b.now) keys key) (names ++ key.now ∷ [])
names_more keys names key are = record {
  each = λ name.
      by name (list_any (λ (k : Bor Bytes). bytes_eq key.now k.now) keys) refl
      ∙ ap (λ b. has_name names name || (b || false)) (same_both name key.now)
      ∙ sym (list_any-append (λ n. bytes_eq n name) names (key.now ∷ []));
}
  where
    there : (name : Bytes) (x h : Bool) → bytes_eq name key.now ≡ x → has_name names name ≡ h → (bytes_eq name key.now ≡ true → has_name names name ≡ true) → h ≡ (h || (x || false))
    there name x true e q again = refl
    there name false false e q again = refl
    there name true false e q again = let both = again e in absurd cc

    by : (name : Bytes) (b : Bool) → list_any (λ (k : Bor Bytes). bytes_eq key.now k.now) keys ≡ b
        → list_any (λ (k : Bor Bytes). bytes_eq name k.now) (if b then keys else keys ++ key ∷ []) ≡ (has_name names name || (bytes_eq name key.now || false))
    by name true e =
        are.each name
        ∙ there name (bytes_eq name key.now) (has_name names name) refl refl
        (λ q. ap (has_name names) ((bytes_eq-Decides name key.now).0 q) ∙ sym (are.each key.now) ∙ e)
    by name false e =
        list_any-append (λ (k : Bor Bytes). bytes_eq name k.now) keys (key ∷ [])
        ∙ ap (λ b. b || (bytes_eq name key.now || false)) (are.each name)

names-append : (xs ys : List PlacedName) → map (λ (n : PlacedName). n.name) (xs ++ ys) ≡ map (λ (n : PlacedName). n.name) xs ++ map (λ (n : PlacedName). n.name) ys
names-append [] ys = refl
names-append (x ∷ xs) ys = ap (λ rest. x.name ∷ rest) (names-append xs ys)

pub globals-append : (xs ys : List ItemTree) → global_names (xs ++ ys) ≡ global_names xs ++ global_names ys
globals-append xs ys = ap (map (λ (n : PlacedName). n.name)) (filter_map-append global_name xs ys) ∙ names-append (filter_map global_name xs) (filter_map global_name ys)

-- two names are apart, where the first is not among some with the second
apart : (a b r : Bool) → not (a || (b || r)) ≡ true → b ≡ false
apart true b r e = absurd cc
apart false true r e = absurd cc
apart false false r e = refl

-- where names are distinct, none is among those before it
pub distinct_there : (front : List Bytes) (name : Bytes) (rest : List Bytes) → is_distinct bytes_eq (front ++ name ∷ rest) ≡ true → has_name front name ≡ false
distinct_there [] name rest e = refl
distinct_there (n ∷ front) name rest e =
    let p = and_parts (not (list_any (bytes_eq n) (front ++ name ∷ rest))) (is_distinct bytes_eq (front ++ name ∷ rest)) e in
    let other = apart (list_any (bytes_eq n) front) (bytes_eq n name) (list_any (bytes_eq n) rest) (ap not (sym (list_any-append (bytes_eq n) front (name ∷ rest))) ∙ p.0) in
    (λ j. other j || distinct_there front name rest p.1 j)

-- of one name that is none of the others, of these, and of one more behind them
with_one_more : (a b d h : Bool) → (not (a || (b || false)) && (d && not h)) ≡ ((not a && d) && not (b || h))
with_one_more true b d h = refl
with_one_more false true true h = refl
with_one_more false true false h = refl
with_one_more false false true h = refl
with_one_more false false false h = refl

-- with one name more they are distinct where they were before, and that one is new
distinct_more : (names : List Bytes) (name : Bytes) → is_distinct bytes_eq (names ++ name ∷ []) ≡ (is_distinct bytes_eq names && not (has_name names name))
distinct_more [] name = refl
distinct_more (n ∷ names) name =
    (λ j. not (list_any-append (bytes_eq n) names (name ∷ []) j) && distinct_more names name j)
    ∙ with_one_more (list_any (bytes_eq n) names) (bytes_eq n name) (is_distinct bytes_eq names) (has_name names name)

-- one name more, and whether it is new
pub globals_more : (old new : GlobalNames) (names : List Bytes) (name : Bytes) (key : Bor Bytes) (is_new : Bool) → key.now ≡ name → AreGlobals old names
    → is_new ≡ not (list_any (λ (k : Bor Bytes). bytes_eq key.now k.now) old.names.keys) → new.distinct ≡ (old.distinct && is_new)
    → new.names.keys ≡ insert_key (λ (a b : Bor Bytes). bytes_eq a.now b.now) old.names.keys key → AreGlobals new (names ++ name ∷ [])
globals_more old new names name key is_new same are new_is told put = subst (λ (n : Bytes). AreGlobals new (names ++ n ∷ [])) same
    (record {
      names = rw put (names_more old.names.keys names key are.names);
      distinct = told ∙ (λ j. are.distinct j && (new_is ∙ ap not (are.names.each key.now)) j) ∙ sym (distinct_more names key.now);
    })
