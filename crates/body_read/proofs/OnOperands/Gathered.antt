-- What a loop gathers behind a count.
use Rattle.std.proofs.Common.{◌≡◌, ◌⊎◌, ◌≤◌, ◌<◌, ◌+◌, ◌-◌, ℕ, Bool, true, false, cond, List, [], ◌∷◌, ◌++◌, Option, Some, None, map, All, refl, sym, ap, subst, ◌∙◌, arith}
use Rattle.std.specs.Prelude.{option_to_list}
use Rattle.std.specs.Option.{option_map}
use Rattle.std.proofs.lemmas.List.{append-nil, map-append}
use Rattle.std.proofs.lemmas.List.Elements.{All-push}
use Rattle.module_arena.proofs.Found.{some-equal}
use Rattle.module_arena.specs.Lists.{Lists}
use Rattle.record_table.specs.Fields.{Numbering}
use Rattle.record_table.specs.Layout.{many}
use Rattle.record_table.specs.Walk.{Walk, next}
use Rattle.record_read.specs.Reader.{is_broken, is_stopped}
use Rattle.record_read.proofs.Repeated.{IsSoFar, begins, more, over}
use Rattle.type_read.specs.declared.arena.counts.LocalCounts.{LocalCounts}
use Rattle.type_read.specs.declared.arena.module_reader.ModuleReader.{ModuleReader}
use Rattle.type_read.specs.Arena.Growing.{Growing, Grows}
use Rattle.type_read.specs.Arena.Kept.{Goes, IsThere}
use Rattle.type_read.specs.Arena.Numbered.{Numbers, IsDeclared}
use Rattle.type_read.proofs.OnArena.Kept.{grows_two}
use Rattle.type_read.proofs.OnArena.Steps.{goes_self, goes_two, still_declared, still_numbers}
use Rattle.body_read.specs.Operands.Found.{Always, Finds}
use Rattle.body_read.proofs.OnOperands.Joined.{was_unbroken, same_locals}

-- the items so far, by what indices stand for
pub record AreRead {A B : Type 0} (seen : Numbering → Lists → B → A) (read : Numbering → Walk → A × Walk) (k : Numbering) (first now : ModuleReader) (count place : ℕ) (items : List B) : Type 0 where
  pub xs : List A
  pub far : IsSoFar (read k) first.reader.walk count xs (count - place) now.reader.walk
  pub kept : IsDeclared first k → is_broken now.reader.walk ≡ false → Always now.growing (λ a. map (seen k a) items ≡ xs)

-- what a loop over them keeps
pub record Gathers {A B : Type 0} (has : LocalCounts → Lists → B → Type 0) (seen : Numbering → Lists → B → A) (read : Numbering → Walk → A × Walk) (first now : ModuleReader) (count place : ℕ) (items : List B) : Type 0 where
  pub goes : Goes first now
  pub there : Always now.growing (λ a. All (has now.locals a) items)
  pub place_in : place ≤ count
  pub reads : (k : Numbering) → Numbers first k → AreRead seen read k first now count place items

pub gather_none : {A B : Type 0} (H : LocalCounts → Lists → B → Type 0) (v : Numbering → Lists → B → A) (read : Numbering → Walk → A × Walk) (first : ModuleReader) (count : ℕ) (items : List B) → items ≡ [] → Gathers H v read first first count 0 items
gather_none {A} {B} H v read first count items none = subst (Gathers H v read first first count 0) (sym none) (record {
  goes = goes_self first;
  there = λ later g i d lt. absurd (omega arith);
  place_in = omega arith;
  reads = λ k n. record { xs = []; far = start (read k) (count - 0) (omega arith); kept = λ declared unbroken later g. refl };
})
  where
    start : (one : Walk → A × Walk) (n : ℕ) → n ≡ count → IsSoFar one first.reader.walk count [] n first.reader.walk
    start one n is = subst (λ i. IsSoFar one first.reader.walk count [] i first.reader.walk) (sym is) (begins one first.reader.walk count)

pub more_there : {A B : Type 0} (H : LocalCounts → Lists → B → Type 0) (v : Numbering → Lists → B → A) (read : Numbering → Walk → A × Walk) (now after : ModuleReader) (items : List B) (item : Option B)
    → Always now.growing (λ a. All (H now.locals a) items) → Finds H v read now after item → (later : Growing) → Grows after.growing later → All (H after.locals later.arena) (items ++ option_to_list item)
more_there {A} {B} H v read now after items item old f later g =
    by item (f.there later g) (subst (λ (l : LocalCounts). All (H l later.arena) items) (same_locals now after f.goes) (old later (grows_two now.growing after.growing later f.goes.grows g)))
  where
    by : (x : Option B) → IsThere (H after.locals later.arena) x after.reader.walk → All (H after.locals later.arena) items → All (H after.locals later.arena) (items ++ option_to_list x)
    by None there all = subst (All (H after.locals later.arena)) (sym (append-nil items)) all
    by (Some y) there all = All-push (H after.locals later.arena) items y all there

pub more_kept : {A B : Type 0} (v : B → A) (items : List B) (x : Option B) (p : A) (xs : List A) → map v items ≡ xs → option_map v x ≡ Some p → map v (items ++ option_to_list x) ≡ xs ++ p ∷ []
more_kept v items None p xs old is = absurd (cc)
more_kept v items (Some y) p xs old is = map-append v items (y ∷ []) ∙ (λ j. old j ++ some-equal is j ∷ [])

-- one more
pub gather_more : {A B : Type 0} {H : LocalCounts → Lists → B → Type 0} {v : Numbering → Lists → B → A} {read : Numbering → Walk → A × Walk} (first now after : ModuleReader) (count place : ℕ) (items more_items : List B) (item : Option B)
    → Gathers H v read first now count place items → place < count → is_stopped now.reader.walk ≡ false → Finds H v read now after item → more_items ≡ items ++ option_to_list item → Gathers H v read first after count (place + 1) more_items
gather_more {A} {B} {H} {v} {read} first now after count place items more_items item h less on f pushed = subst (Gathers H v read first after count (place + 1)) (sym pushed) (record {
  goes = goes_two first now after h.goes f.goes;
  there = λ later g. more_there H v read now after items item h.there f later g;
  place_in = omega (arith, less);
  reads = λ k n.
      let r = h.reads k n in
      let numbers = still_numbers first now k h.goes n in
      let far = more (read k) first.reader.walk count r.xs (count - place) (count - (place + 1)) now.reader.walk (omega (arith, less)) on r.far in
      record {
        xs = r.xs ++ (read k now.reader.walk).0 ∷ [];
        far = subst (λ (w : Walk). IsSoFar (read k) first.reader.walk count (r.xs ++ (read k now.reader.walk).0 ∷ []) (count - (place + 1)) w) (sym (f.walk k numbers)) far;
        kept = λ declared unbroken later g.
            more_kept (v k later.arena) items item (read k now.reader.walk).0 r.xs
            (r.kept declared (was_unbroken now after f.goes unbroken) later (grows_two now.growing after.growing later f.goes.grows g))
            (f.kept k numbers (still_declared first now k h.goes declared) unbroken later g);
      };
})

-- a count, with what is asked of it, and so many
abbrev pub gathered : {A : Type 0} → (ℕ → Walk → Walk) → (Numbering → Walk → A × Walk) → Numbering → Walk → List A × Walk
gathered asked read k w = let n = next w in many (read k) n.0 (asked n.0 n.1)

-- all of them
pub gather_all : {A B : Type 0} {H : LocalCounts → Lists → B → Type 0} {v : Numbering → Lists → B → A} {read : Numbering → Walk → A × Walk} (asked : ℕ → Walk → Walk) (old first now : ModuleReader) (count place : ℕ) (items : List B) (found : Option (List B))
    → Goes old first → count ≡ (next old.reader.walk).0 → first.reader.walk ≡ asked (next old.reader.walk).0 (next old.reader.walk).1 → Gathers H v read first now count place items → (count - place ≡ 0) ⊎ (is_stopped now.reader.walk ≡ true)
    → found ≡ cond (is_broken now.reader.walk) None (Some items) → Finds (λ l a xs. All (H l a) xs) (λ k a xs. map (v k a) xs) (gathered asked read) old now found
gather_all {A} {B} {H} {v} {read} asked old first now count place items found g many_is at h last is = record {
  goes = goes_two old first now g h.goes;
  there = λ later w. there (is_broken now.reader.walk) refl found is later w;
  walk = λ k n.
      let numbers = still_numbers old first k g n in
      let all = over (read k) first.reader.walk count (h.reads k numbers).xs (count - place) now.reader.walk last (h.reads k numbers).far in
      sym all.walk ∙ (λ j. (many (read k) (many_is j) (at j)).1);
  kept = λ k n declared unbroken later w.
      let numbers = still_numbers old first k g n in
      let all = over (read k) first.reader.walk count (h.reads k numbers).xs (count - place) now.reader.walk last (h.reads k numbers).far in
      let whole : map (v k later.arena) items ≡ (gathered asked read k old.reader.walk).0 =
      (h.reads k numbers).kept (still_declared old first k g declared) unbroken later w ∙ (sym all.values ∙ (λ j. (many (read k) (many_is j) (at j)).0)) in
      kept k later.arena (gathered asked read k old.reader.walk).0 (is ∙ ap (λ b. cond b None (Some items)) unbroken) whole;
}
  where
    there : (b : Bool) → is_broken now.reader.walk ≡ b → (x : Option (List B)) → x ≡ cond (is_broken now.reader.walk) None (Some items) → (later : Growing) → Grows now.growing later → IsThere (λ xs. All (H now.locals later.arena) xs) x now.reader.walk
    there true e x same later w =
        let none : x ≡ None = same ∙ ap (λ b. cond b None (Some items)) e in
        subst (λ (y : Option (List B)). IsThere (λ xs. All (H now.locals later.arena) xs) y now.reader.walk) (sym none) e
    there false e x same later w =
        let some : x ≡ Some items = same ∙ ap (λ b. cond b None (Some items)) e in
        subst (λ (y : Option (List B)). IsThere (λ xs. All (H now.locals later.arena) xs) y now.reader.walk) (sym some) (h.there later w)

    kept : (k : Numbering) (a : Lists) (xs : List A) → found ≡ Some items → map (v k a) items ≡ xs → option_map (λ (ys : List B). map (v k a) ys) found ≡ Some xs
    kept k a xs some whole = ap (λ (x : Option (List B)). option_map (λ (ys : List B). map (v k a) ys) x) some ∙ ap (λ (ys : List A). Some ys) whole
