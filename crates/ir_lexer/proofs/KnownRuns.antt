-- What is known of a run stays known further on in it.
use Rattle.std.proofs.Common.{◌≡◌, ℕ, zero, suc, ◌+◌, ◌-◌, ◌≤◌, ◌<◌, List, [], ◌∷◌, length, take, drop, get_or, Bool, true, false, refl, arith, None, add_comm, ◌⊎◌, inl, inr, drop-cons}
use Rattle.std.proofs.lemmas.List.{drop-drop}
use Rattle.ir_base.proofs.Pieces.{rest_whole}
use Rattle.ir_lexer.specs.declared.class.Class.{Class}
use Rattle.ir_lexer.specs.declared.class.Class.TheVariants as c
use Rattle.ir_lexer.specs.Class.{byte_class, in_word, in_name, is_colon, starts_with}
use Rattle.ir_lexer.specs.Form.{run, longest, Done}
use Rattle.ir_lexer.specs.Table.{Label, tail_of}
use Rattle.ir_lexer.specs.Label.{KnownRun, ends_name}
use Rattle.ir_lexer.proofs.Runs.{bool_cases, run_first, run_stops, run_none, run_within}
use Rattle.ir_lexer.proofs.Lexed.{behind_none}

pub run_drop : (p : Class → Bool) (n : ℕ) (s : List ℕ) → n ≤ run p s → run p s ≡ n + run p (drop n s)
run_drop p zero s h = omega arith
run_drop p (suc n) [] h = absurd (omega (arith, run_none p))
run_drop p (suc n) (b ∷ s) h = go (bool_cases (p (byte_class b))) (λ k. run_drop p n s k)
  where
    go : (p (byte_class b) ≡ true) ⊎ (p (byte_class b) ≡ false) → (n ≤ run p s → run p s ≡ n + run p (drop n s)) → run p (b ∷ s) ≡ suc n + run p (drop n s)
    go (inl e) ih = omega (arith, run_first p b s e, ih (omega (arith, run_first p b s e)))
    go (inr e) ih = absurd (omega (arith, run_stops p b s e))

-- further on
pub known_on : (n known : ℕ) (s : List ℕ) → KnownRun known s → KnownRun (known - n) (drop n s)
known_on n known s h less =
    let k = h (omega arith) in
    let r = run_drop in_name n s (omega (arith, k.length_is)) in
    let back : known - n + n ≡ known = omega arith in
    record {
      length_is = omega (arith, r, k.length_is);
      no_colon = rw (drop-drop (known - n) n s) (rw (add_comm n (known - n), back) k.no_colon);
    }

-- then no label begins here
pub no_label_known : (known : ℕ) (s : List ℕ) → 0 < length s → KnownRun known s → 0 < known → None ≡ longest (tail_of Label) (drop 1 s)
no_label_known known [] l h less = absurd (omega arith)
no_label_known known (b ∷ s) l h less =
    let k = h less in
    let r = run_drop in_name 1 (b ∷ s) (omega (arith, k.length_is)) in
    let j : 1 + run in_name s ≡ known = omega (arith, r, k.length_is) in
    let c : starts_with is_colon (drop (1 + run in_name s) (b ∷ s)) ≡ false = rw j k.no_colon in
    let one : 1 + run in_name s ≡ suc (run in_name s) = omega arith in
    let d : starts_with is_colon (drop (run in_name s) s) ≡ false = rw one at c in
    rw (behind_none is_colon (longest Done) (drop (run in_name s) s) d) refl

pub known_further : (n at until : ℕ) (text : List ℕ) → KnownRun (until - at) (drop at text) → KnownRun (until - (at + n)) (drop (at + n) text)
known_further n at until text h =
    let less : until - at - n ≡ until - (at + n) = omega arith in
    let P : ℕ → List ℕ → Type 0 = λ k s. KnownRun k s in
    rw (← less, ← drop-drop n at text) (known_on n (until - at) (drop at text) h)

word_is_name : (x : Class) → in_word x ≡ true → in_name x ≡ true
word_is_name c.Digit h = refl
word_is_name c.Letter h = refl
word_is_name c.LetterC h = refl
word_is_name c.Underscore h = refl
word_is_name _ h = absurd cc

-- where no byte of a name stands in front, no word does
pub no_word : (s : List ℕ) → starts_with in_name s ≡ false → 0 ≡ run in_word s
no_word [] h = omega (arith, run_none in_word)
no_word (b ∷ s) h = elim (bool_cases (in_word (byte_class b))) [
  | inl e ↦ absurd (let k = word_is_name (byte_class b) e in cc)
  | inr e ↦ omega (arith, run_stops in_word b s e)
]

-- the bytes of a word at the front, and those of a name behind them
pub run_in_two : (word n : ℕ) (s : List ℕ) → word ≡ run in_word s → n ≡ run in_name (take (length s - word) (drop word s)) → run in_name s ≡ word + n
run_in_two word n s w e =
    let behind : n ≡ run in_name (drop word s) = rw rest_whole at e in
    omega (arith, behind, run_drop in_name word s (omega (arith, w, run_within in_word in_name word_is_name s)))

-- What may end a word tells that no name goes on, and that no colon stands there.
ends_all : (x : Class) → ends_name x ≡ true → (in_name x ≡ false) × (is_colon x ≡ false)
ends_all c.Mark h = (refl, refl)
ends_all c.Semicolon h = (refl, refl)
ends_all c.LineFeed h = (refl, refl)
ends_all c.Blank h = (refl, refl)
ends_all c.Other h = (refl, refl)
ends_all _ h = absurd cc

pub word_ended : (word : ℕ) (s : List ℕ) → word ≡ run in_word s → word < length s → ends_name (byte_class (get_or s word 0)) ≡ true → KnownRun word s
word_ended word s w h e some =
    let x = ends_all (byte_class (get_or s word 0)) e in
    let none : run in_name (drop word s) ≡ 0 = rw (drop-cons s word 0) (run_stops in_name (get_or s word 0) (drop (suc word) s) x.0) in
    record {
      length_is = omega (arith, w, none, run_drop in_name word s (omega (arith, w, run_within in_word in_name word_is_name s)));
      no_colon = rw (drop-cons s word 0) x.1;
    }

pub no_colon_behind : (n : ℕ) (s : List ℕ) (is : Bool) → is ≡ false → is ≡ starts_with is_colon (take (length s - n) (drop n s)) → starts_with is_colon (drop n s) ≡ false
no_colon_behind n s is e b = let k : is ≡ starts_with is_colon (drop n s) = rw rest_whole at b in cc

-- a word behind its first byte
pub word_behind : (word : ℕ) (s : List ℕ) (x : Class) → 0 < length s → x ≡ byte_class (get_or s 0 0) → in_word x ≡ true → word ≡ run in_word s → word ≡ run in_word (take (length s - 1) (drop 1 s)) + 1
word_behind word [] x some is h w = absurd (omega arith)
word_behind word (b ∷ s) x some is h w =
    let first : in_word (byte_class b) ≡ true = rw is at h in
    rw rest_whole (omega (arith, w, run_first in_word b s first))
