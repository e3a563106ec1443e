-- The tokens that few bytes tell.
use Rattle.std.proofs.Common.{◌≡◌, ℕ, zero, suc, ◌+◌, ◌-◌, ◌<◌, List, [], ◌∷◌, length, take, drop, get_or, true, false, inl, inr, refl, sym, ◌∙◌, arith, Some, None}
use Rattle.ir_base.proofs.Pieces.{rest_whole}
use Rattle.ir_lexer.specs.Class.{byte_class, in_name, in_word, is_at, is_digit, is_percent, is_quote, starts_name, starts_with, starts_word}
use Rattle.ir_lexer.specs.Form.{run, longest, Done}
use Rattle.ir_lexer.specs.Front.{next_token, token_from}
use Rattle.ir_lexer.specs.Label.{KnownRun, ends_name}
use Rattle.ir_lexer.specs.Names.{is_quoted}
use Rattle.ir_lexer.specs.Quoted.{is_text}
use Rattle.ir_lexer.specs.Table.{Label, inside, tail_of}
use Rattle.ir_lexer.specs.declared.class.Class.{Class}
use Rattle.ir_lexer.specs.declared.class.Class.TheVariants as c
use Rattle.ir_lexer.specs.declared.token.TokenKind.TheVariants as k
use Rattle.ir_lexer.proofs.KnownRuns.{no_label_known}
use Rattle.ir_lexer.proofs.Lexed.{behind_none}
use Rattle.ir_lexer.proofs.Lexes.{next_by}
use Rattle.ir_lexer.proofs.Runs.{bool_cases, run_first, run_none, run_stops}

-- the first byte goes on with a word
word_goes_on : (x : Class) → starts_word x ≡ true → in_word x ≡ true
word_goes_on c.Letter h = refl
word_goes_on c.LetterC h = refl
word_goes_on c.Underscore h = refl
word_goes_on _ h = absurd cc

digit_goes_on : (x : Class) → is_digit x ≡ true → in_word x ≡ true
digit_goes_on c.Digit h = refl
digit_goes_on _ h = absurd cc

-- the length of the run that begins with the first byte
pub word_length : (s : List ℕ) (n : ℕ) → starts_with starts_word s ≡ true → n ≡ run in_word (take (length s - 1) (drop 1 s)) → 1 + n ≡ run in_word s
word_length [] n h e = absurd cc
word_length (b ∷ bs) n h e =
    let behind : n ≡ run in_word bs = rw rest_whole at e in
    omega (arith, behind, run_first in_word b bs (word_goes_on (byte_class b) h))

pub digits_length : (s : List ℕ) (n : ℕ) → starts_with is_digit s ≡ true → n ≡ run in_word (take (length s - 1) (drop 1 s)) → 1 + n ≡ run in_word s
digits_length [] n h e = absurd cc
digits_length (b ∷ bs) n h e =
    let behind : n ≡ run in_word bs = rw rest_whole at e in
    omega (arith, behind, run_first in_word b bs (digit_goes_on (byte_class b) h))

-- where no label stands, and no string behind a `c`, the word is the token
of_word : (x : Class) (bs : List ℕ) → starts_word x ≡ true → None ≡ longest (tail_of Label) bs → starts_with is_quote bs ≡ false → Some (k.Word, suc (run in_word bs)) ≡ token_from x bs
of_word c.Letter bs h l q = rw (← l) refl
of_word c.Underscore bs h l q = rw (← l) refl
of_word c.LetterC bs h l q = rw (← l, behind_none is_quote (longest (inside is_text Done)) bs q, q) refl
of_word _ bs h l q = absurd cc

pub word_next : (s : List ℕ) (n : ℕ) → starts_with starts_word s ≡ true → starts_with is_quote (drop 1 s) ≡ false → n ≡ run in_word s → KnownRun n s → Some (k.Word, n) ≡ next_token s
unfolding next_token
word_next [] n h q e known = absurd cc
word_next (b ∷ bs) n h q e known =
    let first = run_first in_word b bs (word_goes_on (byte_class b) h) in
    let size : n ≡ suc (run in_word bs) = e ∙ first in
    let none = no_label_known n (b ∷ bs) (omega arith) known (omega (arith, size)) in
    rw size (of_word (byte_class b) bs h none q)

-- where no label stands, the digits are the token
of_digits : (x : Class) (bs : List ℕ) → is_digit x ≡ true → None ≡ longest (tail_of Label) bs → Some (k.Integer, suc (run is_digit bs)) ≡ token_from x bs
of_digits c.Digit bs h l = rw (← l) refl
of_digits _ bs h l = absurd cc

pub digits_next : (s : List ℕ) (word n : ℕ) → starts_with is_digit s ≡ true → word ≡ run in_word s → KnownRun word s → n ≡ run is_digit (take (length s - 1) (drop 1 s)) → Some (k.Integer, 1 + n) ≡ next_token s
unfolding next_token
digits_next [] word n h e known d = absurd cc
digits_next (b ∷ bs) word n h e known d =
    let first = run_first in_word b bs (digit_goes_on (byte_class b) h) in
    let none = no_label_known word (b ∷ bs) (omega arith) known (omega (arith, e, first)) in
    let behind : n ≡ run is_digit bs = rw rest_whole at d in
    let size : 1 + n ≡ suc (run is_digit bs) = omega (arith, behind) in
    rw size (of_digits (byte_class b) bs h none)

-- a text without a quote among its first two bytes
not_quoted : (b : ℕ) (bs : List ℕ) (n : ℕ) → is_quote (byte_class b) ≡ false → starts_with is_quote bs ≡ false → is_quoted (take n (b ∷ bs)) ≡ false
not_quoted b bs zero h q = refl
not_quoted b [] (suc zero) h q = rw h refl
not_quoted b [] (suc (suc n)) h q = rw h refl
not_quoted b (x ∷ bs) (suc zero) h q = rw h refl
not_quoted b (x ∷ bs) (suc (suc n)) h q = rw h q

percent_no_quote : (x : Class) → is_percent x ≡ true → is_quote x ≡ false
percent_no_quote c.Percent h = refl
percent_no_quote _ h = absurd cc

-- a local that no quote follows has no string
pub local_plain : (s : List ℕ) (n : ℕ) → starts_with is_percent s ≡ true → starts_with is_quote (drop 1 s) ≡ false → is_quoted (take n s) ≡ false
local_plain [] n h q = absurd cc
local_plain (b ∷ bs) n h q = not_quoted b bs n (percent_no_quote (byte_class b) h) q

-- what no quote begins
digit_no_quote : (x : Class) → is_digit x ≡ true → (is_quote x ≡ false) × (starts_name x ≡ false)
digit_no_quote c.Digit h = (refl, refl)
digit_no_quote _ h = absurd cc

name_no_quote : (x : Class) → starts_name x ≡ true → (is_quote x ≡ false) × (in_name x ≡ true)
name_no_quote c.Quote h = absurd cc
name_no_quote c.Digit h = absurd cc
name_no_quote _ h = (refl, h)

-- digits behind `%`
unnamed_of : (x : Class) (b : ℕ) (bs : List ℕ) → is_percent x ≡ true → is_digit (byte_class b) ≡ true → Some (k.UnnamedLocal, suc (1 + run is_digit bs)) ≡ token_from x (b ∷ bs)
unnamed_of c.Percent b bs h d = let no = digit_no_quote (byte_class b) d in rw (no.1, no.0, d) refl
unnamed_of _ b bs h d = absurd cc

-- a name behind `%`
named_of : (x : Class) (b : ℕ) (bs : List ℕ) → is_percent x ≡ true → starts_name (byte_class b) ≡ true → Some (k.LocalName, suc (1 + run in_name bs)) ≡ token_from x (b ∷ bs)
named_of c.Percent b bs h d = rw d refl
named_of _ b bs h d = absurd cc

pub unnamed_next : (s : List ℕ) (n : ℕ) → starts_with is_percent s ≡ true → n ≡ run is_digit (take (length s - 1) (drop 1 s)) → 0 < n → (Some (k.UnnamedLocal, 1 + n) ≡ next_token s) × (starts_with is_quote (drop 1 s) ≡ false)
unfolding next_token
unnamed_next [] n h e less = absurd cc
unnamed_next (a ∷ []) n h e less = absurd (let none : n ≡ run is_digit [] = rw rest_whole at e in omega (arith, none, run_none is_digit))
unnamed_next (a ∷ b ∷ bs) n h e less =
    let whole : n ≡ run is_digit (b ∷ bs) = rw rest_whole at e in
    elim (bool_cases (is_digit (byte_class b))) [
      | inl d ↦ (let size : 1 + n ≡ suc (1 + run is_digit bs) = omega (arith, whole, run_first is_digit b bs d) in
          (rw size (unnamed_of (byte_class a) b bs h d), (digit_no_quote (byte_class b) d).0))
      | inr d ↦ absurd (omega (arith, whole, run_stops is_digit b bs d))
    ]

pub named_next : (s : List ℕ) (n : ℕ) → starts_with is_percent s ≡ true → n ≡ run in_name (take (length s - 1) (drop 1 s)) → starts_with starts_name (drop 1 s) ≡ true → (Some (k.LocalName, 1 + n) ≡ next_token s) × (starts_with is_quote (drop 1 s) ≡ false)
unfolding next_token
named_next [] n h e d = absurd cc
named_next (a ∷ []) n h e d = absurd cc
named_next (a ∷ b ∷ bs) n h e d =
    let whole : n ≡ run in_name (b ∷ bs) = rw rest_whole at e in
    let no = name_no_quote (byte_class b) d in
    let size : 1 + n ≡ suc (1 + run in_name bs) = omega (arith, whole, run_first in_name b bs no.1) in
    (rw size (named_of (byte_class a) b bs h d), no.0)

-- a mark is the token
pub mark_next : (s : List ℕ) (x : Class) → 0 < length s → x ≡ byte_class (get_or s 0 0) → x ≡ c.Mark → Some (k.Punctuation, 1) ≡ next_token s
mark_next s x some is e = next_by s c.Mark (Some (k.Punctuation, 1)) some (sym e ∙ is) refl

-- a name behind `@`
global_of : (x : Class) (b : ℕ) (bs : List ℕ) → is_at x ≡ true → starts_name (byte_class b) ≡ true → Some (k.GlobalName, suc (1 + run in_name bs)) ≡ token_from x (b ∷ bs)
global_of c.At b bs h d = rw d refl
global_of _ b bs h d = absurd cc

at_no_quote : (x : Class) → is_at x ≡ true → is_quote x ≡ false
at_no_quote c.At h = refl
at_no_quote _ h = absurd cc

pub global_next : (s : List ℕ) (n : ℕ) → starts_with is_at s ≡ true → n ≡ run in_name (take (length s - 1) (drop 1 s)) → starts_with starts_name (drop 1 s) ≡ true → (Some (k.GlobalName, 1 + n) ≡ next_token s) × (is_quoted (take (1 + n) s) ≡ false)
unfolding next_token
global_next [] n h e d = absurd cc
global_next (a ∷ []) n h e d = absurd cc
global_next (a ∷ b ∷ bs) n h e d =
    let whole : n ≡ run in_name (b ∷ bs) = rw rest_whole at e in
    let no = name_no_quote (byte_class b) d in
    let size : 1 + n ≡ suc (1 + run in_name bs) = omega (arith, whole, run_first in_name b bs no.1) in
    (rw size (global_of (byte_class a) b bs h d), not_quoted a (b ∷ bs) (1 + n) (at_no_quote (byte_class a) h) no.0)

-- what ends a word is no quote, nor is what goes on with it
end_no_quote : (x : Class) → ends_name x ≡ true → is_quote x ≡ false
end_no_quote c.Quote h = absurd cc
end_no_quote _ h = refl

word_no_quote : (x : Class) → in_word x ≡ true → is_quote x ≡ false
word_no_quote c.Quote h = absurd cc
word_no_quote _ h = refl

pub ended_no_quote : (s : List ℕ) (n : ℕ) → starts_with starts_word s ≡ true → n ≡ run in_word s → starts_with ends_name (drop n s) ≡ true → starts_with is_quote (drop 1 s) ≡ false
ended_no_quote [] n h e ends = absurd cc
ended_no_quote (b ∷ []) n h e ends = refl
ended_no_quote (b ∷ x ∷ bs) n h e ends =
    let first = run_first in_word b (x ∷ bs) (word_goes_on (byte_class b) h) in
    elim (bool_cases (in_word (byte_class x))) [
      | inl d ↦ word_no_quote (byte_class x) d
      | inr d ↦ (let one : n ≡ 1 = omega (arith, e, first, run_stops in_word x bs d) in
          end_no_quote (byte_class x) (rw one at ends))
    ]
