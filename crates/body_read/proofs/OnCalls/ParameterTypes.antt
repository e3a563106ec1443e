-- The types of parameters as a loop reads them.
use Rattle.std.proofs.Common.{◌≡◌, ◌⊎◌, ◌≤◌, ◌<◌, ◌+◌, ◌-◌, ℕ, suc, true, false, List, [], ◌∷◌, ◌++◌, Option, Some, None, length, map, All, refl, sym, ap, subst, ◌∙◌, arith}
use Rattle.std.specs.Prelude.{option_to_list}
use Rattle.std.proofs.lemmas.List.{append-nil, map-append}
use Rattle.std.proofs.lemmas.List.Concat.{flat_map-append}
use Rattle.std.proofs.lemmas.List.Elements.{All-push, All-cons}
use Rattle.type_table.specs.Tree.{Tree}
use Rattle.type_table.specs.Types.{Types, tree}
use Rattle.record_table.specs.Fields.{Numbering, ty}
use Rattle.record_table.specs.Layout.{counted, many}
use Rattle.record_table.specs.Walk.{Walk, next}
use Rattle.record_read.specs.Reader.{Reader, is_broken, is_stopped}
use Rattle.record_read.proofs.Repeated.{IsSoFar, begins, more, over}
use Rattle.type_read.specs.declared.arena.module_reader.ModuleReader.{ModuleReader}
use Rattle.type_read.specs.Arena.Growing.{Growing, Grows}
use Rattle.type_read.specs.Arena.Kept.{Goes, IsKnownType, ReadsType, TakesOnly, tree_at}
use Rattle.type_read.specs.Arena.Numbered.{Numbers}
use Rattle.type_read.proofs.OnArena.Kept.{same_table}
use Rattle.type_read.proofs.OnArena.LeavesRead.{goes_takes}
use Rattle.type_read.proofs.OnArena.Steps.{still_known, still_numbers}
use Rattle.body_read.specs.Operands.Found.{Finds, HasType, HasTypes, types_in}
use Rattle.body_read.specs.Calls.Calls.{ReadsBoth, ReadsParameters, only_known}

pub takes_self : (a : ModuleReader) → TakesOnly a a
takes_self a = record { rest = refl; lasts = λ broken. broken }

pub takes_two : (a b c : ModuleReader) → TakesOnly a b → TakesOnly b c → TakesOnly a c
takes_two a b c g h = record {
  rest = h.rest ∙ ap (λ (x : ModuleReader). record x { reader = record x.reader { walk = c.reader.walk } }) g.rest;
  lasts = λ broken. h.lasts (g.lasts broken);
}

-- those so far, by what indices stand for
pub record AreSoFar (k : Numbering) (first now : ModuleReader) (count place : ℕ) (items : List (Option ℕ)) : Type 0 where
  pub xs : List Tree
  pub far : IsSoFar (ty k).read first.reader.walk count xs (count - place) now.reader.walk
  pub trees : map (tree_at first.growing.arena.table) items ≡ xs

-- what a loop over them keeps
pub record AreTaken (first now : ModuleReader) (count place : ℕ) (items : List (Option ℕ)) : Type 0 where
  pub takes : TakesOnly first now
  pub known : All (IsKnownType now) items
  pub place_in : place ≤ count
  pub reads : (k : Numbering) → Numbers first k → AreSoFar k first now count place items

pub take_none : (first : ModuleReader) (count : ℕ) (items : List (Option ℕ)) → items ≡ [] → AreTaken first first count 0 items
take_none first count items none = subst (AreTaken first first count 0) (sym none) (record {
  takes = takes_self first;
  known = λ i d lt. absurd (omega arith);
  place_in = omega arith;
  reads = λ k n. record { xs = []; far = start k (count - 0) (omega arith); trees = refl };
})
  where
    start : (k : Numbering) (n : ℕ) → n ≡ count → IsSoFar (ty k).read first.reader.walk count [] n first.reader.walk
    start k n is = subst (λ i. IsSoFar (ty k).read first.reader.walk count [] i first.reader.walk) (sym is) (begins (ty k).read first.reader.walk count)

pub still_all : (a b : ModuleReader) (items : List (Option ℕ)) → Goes a b → All (IsKnownType a) items → All (IsKnownType b) items
still_all a b items g all i d lt = still_known a b _ g (all i d lt)

pub take_more : (first now after : ModuleReader) (count place : ℕ) (items more_items : List (Option ℕ)) (x : Option ℕ) → AreTaken first now count place items → place < count → is_stopped now.reader.walk ≡ false
    → TakesOnly now after → IsKnownType after x → ((k : Numbering) → Numbers now k → ReadsType k now after x) → more_items ≡ items ++ x ∷ [] → AreTaken first after count (place + 1) more_items
take_more first now after count place items more_items x h less on takes known reads pushed = subst (AreTaken first after count (place + 1)) (sym pushed) (record {
  takes = takes_two first now after h.takes takes;
  known = All-push (IsKnownType after) items x (still_all now after items (goes_takes now after takes) h.known) known;
  place_in = omega (arith, less);
  reads = λ k n.
      let r = h.reads k n in
      let one = reads k (still_numbers first now k (goes_takes first now h.takes) n) in
      let far = more (ty k).read first.reader.walk count r.xs (count - place) (count - (place + 1)) now.reader.walk (omega (arith, less)) on r.far in
      let at : after.reader.walk ≡ ((ty k).read now.reader.walk).1 = ap (λ (q : Reader). q.walk) one.reader in
      let tree_is : tree_at first.growing.arena.table x ≡ ((ty k).read now.reader.walk).0 =
      ap (λ (t : Types). tree_at t x) (sym (same_table first.growing now.growing (goes_takes first now h.takes).grows)) ∙ one.tree_is in
      record {
        xs = r.xs ++ ((ty k).read now.reader.walk).0 ∷ [];
        far = subst (λ (w : Walk). IsSoFar (ty k).read first.reader.walk count (r.xs ++ ((ty k).read now.reader.walk).0 ∷ []) (count - (place + 1)) w) (sym at) far;
        trees = map-append (tree_at first.growing.arena.table) items (x ∷ []) ∙ (λ j. r.trees j ++ tree_is j ∷ []);
      };
})

pub take_all : (old first now : ModuleReader) (count place : ℕ) (items found : List (Option ℕ)) → TakesOnly old first → count ≡ (next old.reader.walk).0 → first.reader.walk ≡ (next old.reader.walk).1 → AreTaken first now count place items
    → (count - place ≡ 0) ⊎ (is_stopped now.reader.walk ≡ true) → found ≡ items → ReadsParameters old now found
take_all old first now count place items found takes many_is at h last is = subst (ReadsParameters old now) (sym is) (record {
  takes = takes_two old first now takes h.takes;
  known = h.known;
  trees = λ k n.
      let r = h.reads k (still_numbers old first k (goes_takes old first takes) n) in
      let all = over (ty k).read first.reader.walk count r.xs (count - place) now.reader.walk last r.far in
      ap (λ (t : Types). map (tree_at t) items) (sym (same_table old.growing first.growing (goes_takes old first takes).grows))
      ∙ (r.trees ∙ (sym all.values ∙ (λ j. (many (ty k).read (many_is j) (at j)).0)));
  walk = λ k n.
      let r = h.reads k (still_numbers old first k (goes_takes old first takes) n) in
      let all = over (ty k).read first.reader.walk count r.xs (count - place) now.reader.walk last r.far in
      sym all.walk ∙ (λ j. (many (ty k).read (many_is j) (at j)).1);
})

-- ---- those that are known

known_there : (m : ModuleReader) (items : List (Option ℕ)) → All (IsKnownType m) items → (later : Growing) → Grows m.growing later → HasTypes m.locals later.arena (only_known items)
known_there m [] all later g = λ i d lt. absurd (omega arith)
known_there m (x ∷ xs) all later g = by x (all 0 x (omega arith)) (known_there m xs (λ i d lt. all (suc i) d (omega arith)) later g)
  where
    by : (x : Option ℕ) → IsKnownType m x → HasTypes m.locals later.arena (only_known xs) → HasTypes m.locals later.arena (only_known (x ∷ xs))
    by (Some id) h rest = All-cons (HasType m.locals later.arena) id (only_known xs) (subst (λ (t : Types). id < length t.types) (sym (same_table m.growing later g)) h) rest
    by None h rest = rest

known_trees : (m : ModuleReader) (items : List (Option ℕ)) → All (IsKnownType m) items → is_broken m.reader.walk ≡ false → (t : Types) → map (tree t) (only_known items) ≡ map (tree_at t) items
known_trees m [] all unbroken t = refl
known_trees m (x ∷ xs) all unbroken t = by x (all 0 x (omega arith)) (known_trees m xs (λ i d lt. all (suc i) d (omega arith)) unbroken t)
  where
    by : (x : Option ℕ) → IsKnownType m x → map (tree t) (only_known xs) ≡ map (tree_at t) xs → map (tree t) (only_known (x ∷ xs)) ≡ map (tree_at t) (x ∷ xs)
    by (Some id) h rest = ap (λ (ts : List Tree). tree t id ∷ ts) rest
    by None h rest = absurd (cc)

pub parameters_found : (a b : ModuleReader) (items : List (Option ℕ)) (known : List ℕ) → ReadsBoth a b items known → Finds HasTypes types_in (λ k. (counted (ty k)).read) a b (Some known)
parameters_found a b items known r =
    let h = r.reads in
    subst (λ (ids : List ℕ). Finds HasTypes types_in (λ k. (counted (ty k)).read) a b (Some ids)) (sym r.known_are) (record {
      goes = goes_takes a b h.takes;
      there = λ later g. known_there b items h.known later g;
      walk = h.walk;
      kept = λ k n declared unbroken later g.
          ap (λ (ts : List Tree). Some ts)
          (known_trees b items h.known unbroken later.arena.table
          ∙ (ap (λ (t : Types). map (tree_at t) items) (same_table b.growing later g ∙ same_table a.growing b.growing (goes_takes a b h.takes).grows) ∙ h.trees k n));
    })

-- one more that may be known
pub known_more : (items : List (Option ℕ)) (known more_known : List ℕ) (x : Option ℕ) → known ≡ only_known items → more_known ≡ known ++ option_to_list x → more_known ≡ only_known (items ++ x ∷ [])
known_more items known more_known x is pushed =
    pushed ∙ (ap (λ (ids : List ℕ). ids ++ option_to_list x) is ∙ (ap (λ (ids : List ℕ). only_known items ++ ids) (sym (append-nil (option_to_list x))) ∙ sym (flat_map-append option_to_list items (x ∷ []))))
