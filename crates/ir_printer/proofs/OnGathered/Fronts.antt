-- Fronts of what was put.
use Rattle.std.proofs.Common.{◌≡◌, ℕ, suc, ◌+◌, ◌≤◌, false, List, [], ◌∷◌, ◌++◌, length, take, Option, refl, sym, ap, ◌∙◌, append-nil, arith}
use Rattle.std.proofs.lemmas.List.{take-append-le, length-append}
use Rattle.std.proofs.lemmas.Bool.{MatchBool-at_false}
use Rattle.ir_base.specs.Outside.{Added}
use Rattle.ir_base.proofs.Pieces.{added_more}
use Rattle.ir_printer.specs.Gathered.Told.{GatherState, AddedFront, Gathers, Says}

take_behind : (a b : List ℕ) (count : ℕ) → take (length a + count) (a ++ b) ≡ a ++ take count b
take_behind [] b count = let e : 0 + count ≡ count = omega arith in rw e refl
take_behind (x ∷ a) b count = let e : suc (length a) + count ≡ suc (length a + count) = omega arith in rw e (ap (λ (ys : List ℕ). x ∷ ys) (take_behind a b count))

-- a front of what stands behind what was written
front_behind : (start mid now : Option (List ℕ)) (written rest : List ℕ) (count : ℕ) → count ≤ length rest → Added start mid written → Added mid now (take count rest) → AddedFront start now (written ++ rest)
front_behind start mid now written rest count within h k = record {
  count = length written + count;
  within = omega (arith, within, length-append written rest);
  added = rw (take_behind written rest count) (added_more start mid now written (take count rest) h k);
}

-- a front is a front of more
pub front_more : (start now : Option (List ℕ)) (text bytes : List ℕ) → AddedFront start now text → AddedFront start now (text ++ bytes)
front_more start now text bytes f = record {
  count = f.count;
  within = omega (arith, f.within, length-append text bytes);
  added = rw (take-append-le f.count text bytes f.within) f.added;
}

-- all that was held is written
pub gathers_written : (start : Option (List ℕ)) (before now : GatherState) (text : List ℕ) → Added before.taken now.taken before.pending.held → now.pending.held ≡ [] → Gathers start before text → Gathers start now text
gathers_written start before now text added none g = record {
  written = text;
  is = sym (ap (λ (t : List ℕ). text ++ t) none ∙ append-nil text);
  added = rw g.is (added_more start before.taken now.taken g.written before.pending.held g.added added);
}

-- nothing was held, and these bytes are written
pub gathers_through : (start : Option (List ℕ)) (before now : GatherState) (text bytes : List ℕ) → before.pending.held ≡ [] → now.pending.held ≡ [] → Added before.taken now.taken bytes → Gathers start before text → Gathers start now (text ++ bytes)
gathers_through start before now text bytes none still added g = record {
  written = text ++ bytes;
  is = sym (ap (λ (t : List ℕ). (text ++ bytes) ++ t) still ∙ append-nil (text ++ bytes));
  added = added_more start before.taken now.taken text bytes (rw (g.is ∙ ap (λ (t : List ℕ). g.written ++ t) none ∙ append-nil g.written) g.added) added;
}

-- a front of what was held is written
pub front_written : (start : Option (List ℕ)) (before : GatherState) (now : Option (List ℕ)) (text : List ℕ) (count : ℕ) → count ≤ length before.pending.held → Added before.taken now (take count before.pending.held) → Gathers start before text → AddedFront start now text
front_written start before now text count within added g = rw g.is (front_behind start before.taken now g.written before.pending.held count within g.added added)

-- nothing was held, and a front of these bytes is written
pub front_through : (start : Option (List ℕ)) (before : GatherState) (now : Option (List ℕ)) (text bytes : List ℕ) (count : ℕ) → before.pending.held ≡ [] → count ≤ length bytes → Added before.taken now (take count bytes) → Gathers start before text → AddedFront start now (text ++ bytes)
front_through start before now text bytes count none within added g =
    front_behind start before.taken now text bytes count within (rw (g.is ∙ ap (λ (t : List ℕ). g.written ++ t) none ∙ append-nil g.written) g.added) added

-- ---- by whether a write failed

-- no write had failed, so the rest is held
pub gathers : (start : Option (List ℕ)) (s : GatherState) (text : List ℕ) → s.pending.failed ≡ false → Says start s text → Gathers start s text
gathers start s text fine said = MatchBool-at_false _ _ fine said
