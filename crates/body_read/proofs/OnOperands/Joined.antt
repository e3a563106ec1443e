-- One reading behind another: what both of them found.
use Rattle.std.proofs.Common.{◌≡◌, Bool, true, false, Option, Some, None, refl, sym, ap, subst, ◌∙◌}
use Rattle.std.specs.Prelude.{⊤}
use Rattle.std.specs.Option.{option_map}
use Rattle.module_arena.proofs.Found.{some-equal}
use Rattle.module_arena.specs.Lists.{Lists}
use Rattle.record_table.specs.Fields.{Numbering}
use Rattle.record_table.specs.Walk.{Walk}
use Rattle.record_read.specs.Reader.{is_broken}
use Rattle.type_read.specs.declared.arena.counts.LocalCounts.{LocalCounts}
use Rattle.type_read.specs.declared.arena.module_reader.ModuleReader.{ModuleReader}
use Rattle.type_read.specs.Arena.Kept.{Goes, IsThere}
use Rattle.type_read.specs.Arena.Numbered.{Numbers}
use Rattle.type_read.proofs.OnArena.Kept.{grows_two}
use Rattle.type_read.proofs.OnArena.Steps.{goes_two, still_declared, still_numbers}
use Rattle.body_read.specs.Operands.Found.{Finds, both}

-- where no rule is broken behind, none is before
pub was_unbroken : (a b : ModuleReader) → Goes a b → is_broken b.reader.walk ≡ false → is_broken a.reader.walk ≡ false
was_unbroken a b g unbroken = by (is_broken a.reader.walk) refl
  where
    by : (t : Bool) → is_broken a.reader.walk ≡ t → is_broken a.reader.walk ≡ false
    by false e = e
    by true e = let broken : is_broken b.reader.walk ≡ true = g.lasts e in absurd (cc)

pub same_locals : (a b : ModuleReader) → Goes a b → a.locals ≡ b.locals
same_locals a b g = sym (ap (λ (x : ModuleReader). x.locals) g.rest)

-- what is there stays there
pub still_there : {B : Type 0} (H : LocalCounts → Lists → B → Type 0) (b c : ModuleReader) (a : Lists) (x : Option B) → Goes b c → IsThere (H b.locals a) x b.reader.walk → IsThere (H c.locals a) x c.reader.walk
still_there H b c a None g h = g.lasts h
still_there H b c a (Some x) g h = subst (λ (l : LocalCounts). H l a x) (same_locals b c g) h

-- nothing is asked of it
abbrev pub HasAny : {B : Type 0} → LocalCounts → Lists → B → Type 0
HasAny l a x = ⊤

-- both are there
abbrev pub HasBoth : {B D : Type 0} → (LocalCounts → Lists → B → Type 0) → (LocalCounts → Lists → D → Type 0) → LocalCounts → Lists → B × D → Type 0
HasBoth H I l a x = H l a x.0 × I l a x.1

-- what both are
abbrev pub both_in : {A B C D : Type 0} → (Numbering → Lists → B → A) → (Numbering → Lists → D → C) → Numbering → Lists → B × D → A × C
both_in v u k a x = (v k a x.0, u k a x.1)

-- one reading behind another
abbrev pub behind : {A C : Type 0} → (Numbering → Walk → A × Walk) → (A → Numbering → Walk → C × Walk) → Numbering → Walk → (A × C) × Walk
behind first second k w = let x = first k w in let y = second x.0 k x.1 in ((x.0, y.0), y.1)

-- what is read, in other words
abbrev pub put : {A C : Type 0} → (A → C) → (Numbering → Walk → A × Walk) → Numbering → Walk → C × Walk
put g read k w = let x = read k w in (g x.0, x.1)

both_there : {B D : Type 0} (H : LocalCounts → Lists → B → Type 0) (I : LocalCounts → Lists → D → Type 0) (l : LocalCounts) (a : Lists) (x : Option B) (y : Option D) (w : Walk)
    → IsThere (H l a) x w → IsThere (I l a) y w → IsThere (HasBoth H I l a) (both x y) w
both_there H I l a (Some x) (Some y) w h i = (h, i)
both_there H I l a (Some x) None w h i = i
both_there H I l a None (Some y) w h i = h
both_there H I l a None None w h i = h

both_kept : {A B C D : Type 0} (v : Numbering → Lists → B → A) (u : Numbering → Lists → D → C) (k : Numbering) (a : Lists) (x : Option B) (y : Option D) (p : A) (q : C)
    → option_map (v k a) x ≡ Some p → option_map (u k a) y ≡ Some q → option_map (both_in v u k a) (both x y) ≡ Some (p, q)
both_kept v u k a (Some x) (Some y) p q h i = λ j. Some (some-equal h j, some-equal i j)
both_kept v u k a (Some x) None p q h i = absurd (cc)
both_kept v u k a None y p q h i = absurd (cc)

-- one behind the other, where it may depend on what the first is
pub and_then : {A B C D : Type 0} {H : LocalCounts → Lists → B → Type 0} {I : LocalCounts → Lists → D → Type 0} {v : Numbering → Lists → B → A} {u : Numbering → Lists → D → C}
    {first : Numbering → Walk → A × Walk} {further : Numbering → Walk → C × Walk} (second : A → Numbering → Walk → C × Walk) (a b c : ModuleReader) (x : Option B) (y : Option D)
    → Finds H v first a b x → Finds I u further b c y → ((k : Numbering) → Numbers a k → (w : Walk) → further k w ≡ second (first k a.reader.walk).0 k w) → Finds (HasBoth H I) (both_in v u) (behind first second) a c (both x y)
and_then {A} {B} {C} {D} {H} {I} {v} {u} {first} {further} second a b c x y f s same = record {
  goes = goes_two a b c f.goes s.goes;
  there = λ later g. both_there H I c.locals later.arena x y c.reader.walk (still_there H b c later.arena x s.goes (f.there later (grows_two b.growing c.growing later s.goes.grows g))) (s.there later g);
  walk = λ k n. s.walk k (still_numbers a b k f.goes n) ∙ (λ j. (same k n (f.walk k n j) j).1);
  kept = λ k n declared unbroken later g.
      both_kept v u k later.arena x y (first k a.reader.walk).0 (second (first k a.reader.walk).0 k (first k a.reader.walk).1).0
      (f.kept k n declared (was_unbroken b c s.goes unbroken) later (grows_two b.growing c.growing later s.goes.grows g))
      (s.kept k (still_numbers a b k f.goes n) (still_declared a b k f.goes declared) unbroken later g ∙ (λ j. Some (same k n (f.walk k n j) j).0));
}

-- one behind the other
pub also : {A B C D : Type 0} {H : LocalCounts → Lists → B → Type 0} {I : LocalCounts → Lists → D → Type 0} {v : Numbering → Lists → B → A} {u : Numbering → Lists → D → C}
    {first : Numbering → Walk → A × Walk} {further : Numbering → Walk → C × Walk} (a b c : ModuleReader) (x : Option B) (y : Option D)
    → Finds H v first a b x → Finds I u further b c y → Finds (HasBoth H I) (both_in v u) (behind first (λ p. further)) a c (both x y)
also {A} {B} {C} {D} {H} {I} {v} {u} {first} {further} a b c x y f s = and_then (λ p. further) a b c x y f s (λ k n w. refl)

mapped_there : {B D : Type 0} (H : LocalCounts → Lists → B → Type 0) (I : LocalCounts → Lists → D → Type 0) (f : B → D) (l : LocalCounts) (a : Lists) (x : Option B) (w : Walk)
    → ((y : B) → H l a y → I l a (f y)) → IsThere (H l a) x w → IsThere (I l a) (option_map f x) w
mapped_there H I f l a None w has h = h
mapped_there H I f l a (Some x) w has h = has x h

mapped_kept : {A B C D : Type 0} (v : B → A) (u : D → C) (f : B → D) (g : A → C) (x : Option B) (p : A) → ((y : B) → u (f y) ≡ g (v y)) → option_map v x ≡ Some p → option_map u (option_map f x) ≡ Some (g p)
mapped_kept v u f g None p is h = absurd (cc)
mapped_kept v u f g (Some x) p is h = ap (λ z. Some z) (is x ∙ ap g (some-equal h))

-- the same in other words
pub put_so : {A B C D : Type 0} {H : LocalCounts → Lists → B → Type 0} {v : Numbering → Lists → B → A} {read : Numbering → Walk → A × Walk} (I : LocalCounts → Lists → D → Type 0) (u : Numbering → Lists → D → C) (f : B → D) (g : A → C)
    (a b : ModuleReader) (x : Option B) → ((l : LocalCounts) (q : Lists) (y : B) → H l q y → I l q (f y)) → ((k : Numbering) (q : Lists) (y : B) → u k q (f y) ≡ g (v k q y)) → Finds H v read a b x → Finds I u (put g read) a b (option_map f x)
put_so {A} {B} {C} {D} {H} {v} {read} I u f g a b x has is h = record {
  goes = h.goes;
  there = λ later w. mapped_there H I f b.locals later.arena x b.reader.walk (has b.locals later.arena) (h.there later w);
  walk = h.walk;
  kept = λ k n declared unbroken later w. mapped_kept (v k later.arena) (u k later.arena) f g x (read k a.reader.walk).0 (is k later.arena) (h.kept k n declared unbroken later w);
}

-- behind a reading of what is not kept
pub starting : {A B : Type 0} {H : LocalCounts → Lists → B → Type 0} {v : Numbering → Lists → B → A} {read : Numbering → Walk → A × Walk} (whole : Numbering → Walk → A × Walk) (a b c : ModuleReader) (x : Option B)
    → Goes a b → Finds H v read b c x → ((k : Numbering) → Numbers a k → read k b.reader.walk ≡ whole k a.reader.walk) → Finds H v whole a c x
starting {A} {B} {H} {v} {read} whole a b c x g h same = record {
  goes = goes_two a b c g h.goes;
  there = h.there;
  walk = λ k n. h.walk k (still_numbers a b k g n) ∙ (λ j. (same k n j).1);
  kept = λ k n declared unbroken later w. h.kept k (still_numbers a b k g n) (still_declared a b k g declared) unbroken later w ∙ (λ j. Some (same k n j).0);
}

-- where a rule is broken that stops, nothing is found
pub none_found : {A B : Type 0} (H : LocalCounts → Lists → B → Type 0) (v : Numbering → Lists → B → A) (whole : Numbering → Walk → A × Walk) (a b : ModuleReader) → Goes a b → is_broken b.reader.walk ≡ true
    → ((k : Numbering) → Numbers a k → b.reader.walk ≡ (whole k a.reader.walk).1) → Finds H v whole a b None
none_found H v whole a b g broken same = record {
  goes = g;
  there = λ later w. broken;
  walk = same;
  kept = λ k n declared unbroken later w. absurd (cc);
}
