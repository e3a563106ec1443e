-- Bytes under a mask, when both are changed in one range.
use Rattle.std.proofs.Common.{◌≡◌, ℕ, zero, suc, ◌+◌, ◌<◌, ◌≤◌, List, [], ◌∷◌, length, get_or, map, replicate, refl, sym, ap, ◌∙◌, arith, Bool, true, false, Option, Some, None, if◌then◌else◌}
use Rattle.std.specs.Prelude.{slice_range}
use Rattle.std.specs.List.{range_with_len}
use Rattle.std.proofs.lemmas.Bool.Decides.{nat_tests}
use Rattle.std.proofs.lemmas.List.{length-replicate}
use Rattle.std.proofs.lemmas.List.Edits.{length-between}
use Rattle.std.proofs.lemmas.List.FromFn.{length-map-range_with_len}
use Rattle.ir_memory.specs.Masked.Masked.{put, digit, digits, bytes, is_within, is_marked, mapped_with_places, unless, masked, number_of, number_of_bytes}
use Rattle.ir_memory.proofs.OnMasked.Placed.{length-placed, placed-same, placed-map, map-const, range-placed, placed-put, get_or-placed}
use Rattle.ir_memory.proofs.OnMasked.Numbers.{number_of-some, number_of-none}

pub length-masked : (words bs : List ℕ) → length (masked words bs) ≡ length bs
length-masked words bs = length-placed (λ k b. unless (is_marked words k) b) 0 bs

-- in a range the marks are others
abbrev pub AreMarked : List ℕ → List ℕ → ℕ → ℕ → (ℕ → Bool) → Type 0
AreMarked words marks at count to = (k : ℕ) → is_marked marks k ≡ (if is_within at (at + count) k then to k else is_marked words k)

module _ (words marks : List ℕ) (at count : ℕ) (to : ℕ → Bool) (are : AreMarked words marks at count to) where
  inside : (k : ℕ) → at ≤ k → k < at + count → is_marked marks k ≡ to k
  inside k h l = are k ∙ grind (arith, nat_tests)

  before : (k : ℕ) → k < at → is_marked marks k ≡ is_marked words k
  before k h = are k ∙ grind (arith, nat_tests)

  after : (k : ℕ) → at + count ≤ k → is_marked marks k ≡ is_marked words k
  after k h = are k ∙ grind (arith, nat_tests)

-- bytes are put, with marks of their own
masked-put : (words marks bs new : List ℕ) (at : ℕ) (to : ℕ → Bool) → at + length new ≤ length bs → AreMarked words marks at (length new) to → masked marks (put at new bs) ≡ put at (mapped_with_places (λ k b. unless (to k) b) at new) (masked words bs)
masked-put words marks bs new at to fits are =
    placed-put (λ k b. unless (is_marked words k) b) (λ k b. unless (is_marked marks k) b) 0 at new bs fits
    (λ k b h. ap (λ t. unless t b) (before words marks at (length new) to are (0 + k) (omega (arith, h))))
    (λ k b h l. ap (λ t. unless t b) (after words marks at (length new) to are (0 + k) (omega (arith, h))))
    ∙ ap (λ ys. put at ys (masked words bs)) (placed-same (λ k b. unless (is_marked marks k) b) (λ k b. unless (to k) b) (0 + at) at new (λ k b h.
    let e : 0 + at + k ≡ at + k = omega arith in
    ap (λ n. unless (is_marked marks n) b) e ∙ ap (λ t. unless t b) (inside words marks at (length new) to are (at + k) (omega arith) (omega (arith, h)))))

map-some-replicate : (n b : ℕ) → map (λ x. Some x) (replicate n b) ≡ replicate n (Some b)
map-some-replicate zero b = refl
map-some-replicate (suc n) b = ap (λ ys. Some b ∷ ys) (map-some-replicate n b)

map-some-map : (f : ℕ → ℕ) (ks : List ℕ) → map (λ x. Some x) (map f ks) ≡ map (λ k. Some (f k)) ks
map-some-map f [] = refl
map-some-map f (k ∷ ks) = ap (λ ys. Some (f k) ∷ ys) (map-some-map f ks)

-- no byte in the range is poison
plain-put : (words marks bs new : List ℕ) (at count : ℕ) → length new ≡ count → at + count ≤ length bs → AreMarked words marks at count (λ k. false) → masked marks (put at new bs) ≡ put at (map (λ x. Some x) new) (masked words bs)
plain-put words marks bs new at count long fits are =
    masked-put words marks bs new at (λ k. false) (omega (arith, long, fits)) (λ k. are k ∙ ap (λ n. if is_within at (at + n) k then false else is_marked words k) (sym long))
    ∙ ap (λ ys. put at ys (masked words bs)) (placed-map (λ x. Some x) at new)

pub put-number : (words marks bs : List ℕ) (at count number : ℕ) → at + count ≤ length bs → AreMarked words marks at count (λ k. false) → masked marks (put at (digits count number) bs) ≡ put at (bytes count number) (masked words bs)
put-number words marks bs at count number fits are =
    plain-put words marks bs (digits count number) at count (length-map-range_with_len (λ k. digit number k) 0 count) fits are
    ∙ ap (λ ys. put at ys (masked words bs)) (map-some-map (λ k. digit number k) (range_with_len 0 count))

pub put-many : (words marks bs : List ℕ) (at count byte : ℕ) → at + count ≤ length bs → AreMarked words marks at count (λ k. false) → masked marks (put at (replicate count byte) bs) ≡ put at (replicate count (Some byte)) (masked words bs)
put-many words marks bs at count byte fits are =
    plain-put words marks bs (replicate count byte) at count (length-replicate count byte) fits are
    ∙ ap (λ ys. put at ys (masked words bs)) (map-some-replicate count byte)

pub put-poison : (words marks bs : List ℕ) (at count : ℕ) → at + count ≤ length bs → AreMarked words marks at count (λ k. true) → masked marks (put at (replicate count 0) bs) ≡ put at (replicate count None) (masked words bs)
put-poison words marks bs at count fits are =
    let long : length (replicate count 0) ≡ count = length-replicate {A = ℕ} count 0 in
    masked-put words marks bs (replicate count 0) at (λ k. true) (omega (arith, long, fits)) (λ k. are k ∙ ap (λ n. if is_within at (at + n) k then true else is_marked words k) (sym long))
    ∙ ap (λ ys. put at ys (masked words bs)) (placed-map (λ x. None) at (replicate count 0) ∙ map-const None (replicate count 0) ∙ ap (λ n. replicate n None) long)

-- bytes of another are put, with their marks
pub put-copied : (words marks bs others from_bs : List ℕ) (at from count : ℕ) (to : ℕ → Bool) → at + count ≤ length bs → from + count ≤ length from_bs → AreMarked words marks at count to → ((k : ℕ) → k < count → to (at + k) ≡ is_marked others (from + k)) → masked marks (put at (slice_range from_bs from (from + count)) bs) ≡ put at (slice_range (masked others from_bs) from (from + count)) (masked words bs)
put-copied words marks bs others from_bs at from count to fits has are same =
    masked-put words marks bs (slice_range from_bs from (from + count)) at to (omega (arith, long, fits)) (λ k. are k ∙ ap (λ n. if is_within at (at + n) k then to k else is_marked words k) (sym long))
    ∙ ap (λ ys. put at ys (masked words bs)) (placed-same (λ k b. unless (to k) b) (λ k b. unless (is_marked others k) b) at (0 + from) (slice_range from_bs from (from + count)) (λ k b h.
    let e : from + k ≡ 0 + from + k = omega arith in
    ap (λ t. unless t b) (same k (omega (arith, h, long))) ∙ ap (λ n. unless (is_marked others n) b) e)
    ∙ sym (range-placed (λ k b. unless (is_marked others k) b) 0 from count from_bs))
  where
    long : length (slice_range from_bs from (from + count)) ≡ count
    long = let l = length-between from_bs from (from + count) has in omega (arith, l)

module _ (words bs : List ℕ) (at count : ℕ) (within : at + count ≤ length bs) where
  read : List (Option ℕ)
  read = slice_range (masked words bs) at (at + count)

  long_read : length (slice_range bs at (at + count)) ≡ count
  long_read = let l = length-between bs at (at + count) within in omega (arith, l)

  -- what has no mark spells a number
  pub number-some : ((k : ℕ) → k < count → is_marked words (at + k) ≡ false) → number_of (slice_range (masked words bs) at (at + count)) ≡ Some (number_of_bytes (slice_range bs at (at + count)))
  number-some none =
      ap number_of (range-placed (λ k b. unless (is_marked words k) b) 0 at count bs
      ∙ placed-same (λ k b. unless (is_marked words k) b) (λ k b. Some b) (0 + at) at (slice_range bs at (at + count)) (λ k b h.
      let e : 0 + at + k ≡ at + k = omega arith in
      ap (λ n. unless (is_marked words n) b) e ∙ ap (λ t. unless t b) (none k (omega (arith, h, long_read))))
      ∙ placed-map (λ x. Some x) at (slice_range bs at (at + count)))
      ∙ number_of-some (slice_range bs at (at + count))

  -- a mark spoils all
  pub number-none : (k : ℕ) → k < count → is_marked words (at + k) ≡ true → number_of (slice_range (masked words bs) at (at + count)) ≡ None
  number-none k h marked =
      let e : 0 + at + k ≡ at + k = omega arith in
      let whole = range-placed (λ j b. unless (is_marked words j) b) 0 at count bs in
      let l = length-placed (λ j b. unless (is_marked words j) b) (0 + at) (slice_range bs at (at + count)) in
      ap number_of whole
      ∙ number_of-none (mapped_with_places (λ j b. unless (is_marked words j) b) (0 + at) (slice_range bs at (at + count))) k (omega (arith, h, l, long_read))
      (get_or-placed (λ j b. unless (is_marked words j) b) (0 + at) (slice_range bs at (at + count)) k (Some 0) 0 (omega (arith, h, long_read))
      ∙ ap (λ n. unless (is_marked words n) (get_or (slice_range bs at (at + count)) k 0)) e
      ∙ ap (λ t. unless t (get_or (slice_range bs at (at + count)) k 0)) marked)

-- bytes under a mask without a mark
pub unmarked : (words bs : List ℕ) → ((k : ℕ) → is_marked words k ≡ false) → masked words bs ≡ map (λ b. Some b) bs
unmarked words bs none =
    placed-same (λ k b. unless (is_marked words k) b) (λ k b. Some b) 0 0 bs (λ k b h. ap (λ t. unless t b) (none (0 + k)))
    ∙ placed-map (λ x. Some x) 0 bs

pub zeros : (words : List ℕ) (n : ℕ) → ((k : ℕ) → is_marked words k ≡ false) → masked words (replicate n 0) ≡ replicate n (Some 0)
zeros words n none =
    unmarked words (replicate n 0) none ∙ map-some-replicate n 0

pub got : (words bs : List ℕ) (at : ℕ) (t : Bool) → at < length bs → t ≡ is_marked words at → get_or (masked words bs) at None ≡ unless t (get_or bs at 0)
got words bs at t h e =
    let here : 0 + at ≡ at = omega arith in
    get_or-placed (λ k b. unless (is_marked words k) b) 0 bs at None 0 h
    ∙ ap (λ n. unless (is_marked words n) (get_or bs at 0)) here
    ∙ ap (λ m. unless m (get_or bs at 0)) (sym e)
