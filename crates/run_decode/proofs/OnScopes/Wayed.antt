-- Ways into blocks: blocks and entries of phis are found by their ids, and moves are appended.
use Rattle.std.proofs.Common.{◌≡◌, ℕ, suc, ◌+◌, ◌<◌, ◌≤◌, Bool, true, false, cond, List, [], ◌∷◌, ◌++◌, All, append_assoc, append-nil, length, take, drop, get_or, map, flat_map, find, Option, Some, refl, sym, ap, ◌∙◌, subst, arith, unwrap_or, eqb-true, eq-eqb}
use Rattle.std.specs.Prelude.{nat_eq, position, slice_get, IfSome}
use Rattle.std.specs.List.{position_or_len}
use Rattle.std.specs.Option.{option_map_or}
use Rattle.std.proofs.Math.Seq.{drop-cons, take-suc}
use Rattle.std.proofs.lemmas.Bool.{false≢true, false_from_ne_true, lt-ltb}
use Rattle.std.proofs.lemmas.Grind.{flat_map-append}
use Rattle.std.proofs.lemmas.List.{drop_all, length-map, length-take, map-append}
use Rattle.std.proofs.lemmas.List.Folds.{find_at}
use Rattle.std.proofs.lemmas.List.Sums.{position_or_len_is}
use Rattle.std.proofs.lemmas.Option.{get_or_from_slice_get, slice_get-get_or, slice_get_within}
use Rattle.run_names.proofs.Listed.{mapped_at}
use Rattle.type_table.specs.Tree.{Tree}
use Rattle.module_arena.specs.declared.instruction.Incoming.{Incoming}
use Rattle.module_arena.specs.declared.instruction.Inst.{Inst}
use Rattle.module_arena.specs.declared.instruction.Value as the_value
use Rattle.module_arena.specs.Module as m
use Rattle.module_arena.specs.Module.{LocalName}
use Rattle.module_arena.specs.Same.{same_local}
use Rattle.module_arena.specs.Lists.{Lists, function_blocks}
use Rattle.module_arena.specs.View.{local_view}
use Rattle.module_arena.specs.declared.entry.Block.{Block}
use Rattle.module_arena.specs.declared.entry.Function.{Function}
use Rattle.module_arena.proofs.SameNames.{same_is, same_self}
use Rattle.run_rules.specs.Action as actions
use Rattle.run_rules.specs.Resolve.{edge_in, edge_into, incoming_from, is_phi, moves_to, phi_moves, phis}
use Rattle.run_rules.specs.Scope.{blocks_of, value_in}
use Rattle.run_actions.specs.declared.stack.origin.Move.{Move}
use Rattle.run_actions.specs.declared.stack.origin.Origin.{Origin}
use Rattle.run_actions.specs.Stack.Origins.{move_of, origin_of}
use Rattle.run_decode.specs.Scopes.Scopes.{AreApart, HasValueAt, Framed, block_of, function_of, incoming_of, instruction_of, label_of, labels_in, scope_in, value_of}
use Rattle.run_decode.specs.Scopes.Ways.{GainsMoves, HasEntry, entry_from, gets}
use Rattle.run_decode.proofs.OnScopes.Viewed.{blocks_all, labels_are}

-- ---- found by names that no other has

module _ (bs : List m.Block) (k : ℕ) (b : m.Block) (apart : AreApart (map (λ (x : m.Block). x.name) bs)) (at : slice_get bs k ≡ Some b) where
  abbrev named : m.Block → Bool
  named x = same_local x.name b.name

  others : (j : ℕ) → j < k → named (get_or bs j b) ≡ false
  others j lt =
      let within = slice_get_within bs k b at in
      false_from_ne_true (named (get_or bs j b)) (λ same.
      let here = mapped_at (λ (x : m.Block). x.name) bs j (get_or bs j b) (slice_get-get_or bs j b (omega (arith, within, lt))) in
      let one = apart j k b.name (here ∙ ap Some (same_is (get_or bs j b).name b.name same)) (mapped_at (λ (x : m.Block). x.name) bs k b at) in
      absurd (omega (arith, one, lt)))

  first : position_or_len named bs ≡ k
  first =
      let within = slice_get_within bs k b at in
      let read : get_or bs k b ≡ b = ap (λ (o : Option m.Block). unwrap_or o b) (sym (slice_get-get_or bs k b within) ∙ at) in
      position_or_len_is named bs k b (omega (arith, within)) others (λ lt. ap named read ∙ same_self b.name)

  pub block_found : find named bs ≡ Some b
  block_found = find_at named bs ∙ ap (slice_get bs) first ∙ at

  pub block_numbered : unwrap_or (position named bs) 0 ≡ k
  block_numbered =
      let within = slice_get_within bs k b at in
      let is = first in
      let there : position_or_len named bs < length bs = omega (arith, within, is) in
      let numbered : position named bs ≡ Some (position_or_len named bs) = rw (lt-ltb (position_or_len named bs) (length bs) there) refl in
      ap (λ (o : Option ℕ). unwrap_or o 0) numbered ∙ is

-- ---- entries of phis

same_labels : (names : List LocalName) (d : LocalName) (i j : ℕ) → AreApart names → i < length names → j < length names → same_local (get_or names i d) (get_or names j d) ≡ nat_eq i j
same_labels names d i j apart li lj = go (nat_eq i j) refl
  where
    go : (b : Bool) → nat_eq i j ≡ b → same_local (get_or names i d) (get_or names j d) ≡ b
    go true e = ap (λ (n : ℕ). same_local (get_or names i d) (get_or names n d)) (sym (eqb-true i j e)) ∙ same_self (get_or names i d)
    go false e = false_from_ne_true (same_local (get_or names i d) (get_or names j d)) (λ same.
        let one = apart i j (get_or names j d) (slice_get-get_or names i d li ∙ ap Some (same_is (get_or names i d) (get_or names j d) same)) (slice_get-get_or names j d lj) in
        absurd (false≢true (sym e ∙ eq-eqb i j one)))

module _ (s : Framed) (ty : ℕ) (t : Tree) (from : ℕ) (apart : AreApart (labels_in s.lists s.function)) (here : from < length (labels_in s.lists s.function)) where
  -- what comes in from a block
  pub comes_in : (is : List Incoming) → All (HasEntry s ty) is
      → incoming_from (scope_in s.lists s.function) (label_of s.lists s.function from) t (map (incoming_of s.lists s.function) is)
      ≡ option_map_or (λ (v : the_value.Value). value_in (scope_in s.lists s.function) t (value_of s.lists s.function v)) (entry_from is from) []
  comes_in [] h = refl
  comes_in (i ∷ is) h =
      let a = s.lists in
      let f = s.function in
      let count = length-map (function_blocks f) (λ (b : Block). local_view b.name) in
      let bound = (h 0 i (omega arith)).block in
      let e = same_labels (labels_in a f) (LocalName.Numbered 0) i.block from apart (omega (arith, count, bound)) here in
      ap (λ (b : Bool). option_map_or (λ (x : m.Incoming). value_in (scope_in a f) t x.value) (cond b (Some (incoming_of a f i)) (find (λ (x : m.Incoming). same_local x.block (label_of a f from)) (map (incoming_of a f) is))) []) e
      ∙ go (nat_eq i.block from) (comes_in is (λ k d lt. h (suc k) d (omega (arith, lt))))
    where
      go : (b : Bool)
          → option_map_or (λ (x : m.Incoming). value_in (scope_in s.lists s.function) t x.value) (find (λ (x : m.Incoming). same_local x.block (label_of s.lists s.function from)) (map (incoming_of s.lists s.function) is)) []
          ≡ option_map_or (λ (v : the_value.Value). value_in (scope_in s.lists s.function) t (value_of s.lists s.function v)) (entry_from is from) []
          → option_map_or (λ (x : m.Incoming). value_in (scope_in s.lists s.function) t x.value) (cond b (Some (incoming_of s.lists s.function i)) (find (λ (x : m.Incoming). same_local x.block (label_of s.lists s.function from)) (map (incoming_of s.lists s.function) is))) []
          ≡ option_map_or (λ (v : the_value.Value). value_in (scope_in s.lists s.function) t (value_of s.lists s.function v)) (cond b (Some i.value) (entry_from is from)) []
      go true rest = refl
      go false rest = rest

-- the value of an entry has what all have
pub entry_has : (s : Framed) (ty from : ℕ) (is : List Incoming) → All (HasEntry s ty) is → IfSome (entry_from is from) (HasValueAt s ty)
entry_has s ty from [] h = tt
entry_has s ty from (i ∷ is) h = go (nat_eq i.block from) (h 0 i (omega arith)).value (entry_has s ty from is (λ k d lt. h (suc k) d (omega (arith, lt))))
  where
    go : (b : Bool) → HasValueAt s ty i.value → IfSome (entry_from is from) (HasValueAt s ty) → IfSome (cond b (Some i.value) (entry_from is from)) (HasValueAt s ty)
    go true here rest = here
    go false here rest = rest

-- ---- moves

moves_end : (to next : ℕ) (xs : List actions.Origin) (o : actions.Origin) → next ≡ to + length xs → moves_to to (xs ++ o ∷ []) ≡ moves_to to xs ++ record { to = next; from = o } ∷ []
moves_end to next [] o e = let same : to ≡ next = omega (arith, e) in ap (λ (n : ℕ). record { to = n; from = o } ∷ []) same
moves_end to next (x ∷ xs) o e =
    let further : next ≡ to + 1 + length xs = omega (arith, e) in
    ap (λ (l : List actions.Move). record { to = to; from = x } ∷ l) (moves_end (to + 1) next xs o further)

-- one leaf more
pub move_more : (old now new : List Move) (to next : ℕ) (leaves : List Origin) (k : ℕ) (x d : Origin) → k < length leaves → x ≡ get_or leaves k d → next ≡ to + k
    → GainsMoves old now (moves_to to (map origin_of (take k leaves))) → new ≡ now ++ record { to = next; from = x } ∷ [] → GainsMoves old new (moves_to to (map origin_of (take (k + 1) leaves)))
move_more old now new to next leaves k x d lt is at h step =
    let count : k + 1 ≡ suc k = omega arith in
    let front : take (k + 1) leaves ≡ take k leaves ++ x ∷ [] = ap (λ (n : ℕ). take n leaves) count ∙ take-suc leaves k d lt ∙ ap (λ (y : Origin). take k leaves ++ y ∷ []) (sym is) in
    let many = length-map (take k leaves) origin_of in
    let taken = length-take k leaves in
    let here : next ≡ to + length (map origin_of (take k leaves)) = omega (arith, many, taken, at, lt) in
    let split = ap (map origin_of) front ∙ map-append origin_of (take k leaves) (x ∷ []) in
    ap (map move_of) step
    ∙ map-append move_of now (record { to = next; from = x } ∷ [])
    ∙ ap (λ (l : List actions.Move). l ++ record { to = next; from = origin_of x } ∷ []) h
    ∙ append_assoc (map move_of old) (moves_to to (map origin_of (take k leaves))) (record { to = next; from = origin_of x } ∷ [])
    ∙ ap (λ (l : List actions.Move). map move_of old ++ l) (sym (moves_end to next (map origin_of (take k leaves)) (origin_of x) here) ∙ ap (moves_to to) (sym split))

pub moves_more : (old now new : List Move) (xs ys : List actions.Move) → GainsMoves old now xs → GainsMoves now new ys → GainsMoves old new (xs ++ ys)
moves_more old now new xs ys h k = k ∙ ap (λ (l : List actions.Move). l ++ ys) h ∙ append_assoc (map move_of old) xs ys

pub moves_same : (old new : List Move) (xs ys : List actions.Move) → xs ≡ ys → GainsMoves old new xs → GainsMoves old new ys
moves_same old new xs ys e h = h ∙ ap (λ (l : List actions.Move). map move_of old ++ l) e

pub moves_none : (old : List Move) (gained : List actions.Move) → gained ≡ [] → GainsMoves old old gained
moves_none old gained e = sym (append-nil (map move_of old)) ∙ ap (λ (l : List actions.Move). map move_of old ++ l) (sym e)

-- ---- entry by entry, and phi by phi

pub entry_step : (is : List Incoming) (k : ℕ) (x d : Incoming) (from : ℕ) (b : Bool) → k < length is → x ≡ get_or is k d → nat_eq x.block from ≡ b → entry_from (drop k is) from ≡ cond b (Some x.value) (entry_from (drop (k + 1) is) from)
entry_step is k x d from b lt e t =
    let count : suc k ≡ k + 1 = omega arith in
    ap (λ (l : List Incoming). entry_from l from) (drop-cons is k d lt ∙ (λ j. sym e j ∷ drop (count j) is))
    ∙ ap (λ (c : Bool). cond c (Some x.value) (entry_from (drop (k + 1) is) from)) t

module _ (s : Framed) where
  abbrev meant : Inst → m.Instruction
  meant i = instruction_of s.lists s.function i

  -- the instructions up to a place are phis, and those behind it go on
  abbrev pub IsLed : List Inst → ℕ → Type 0
  IsLed is k = phis (map meant is) ≡ map meant (take k is) ++ phis (map meant (drop k is))

  next_phis : (is : List Inst) (k : ℕ) (x d : Inst) (b : Bool) → k < length is → x ≡ get_or is k d → is_phi (meant x).operation ≡ b → phis (map meant (drop k is)) ≡ cond b (meant x ∷ phis (map meant (drop (k + 1) is))) []
  next_phis is k x d b lt e t =
      let count : suc k ≡ k + 1 = omega arith in
      ap (λ (l : List Inst). phis (map meant l)) (drop-cons is k d lt ∙ (λ j. sym e j ∷ drop (count j) is))
      ∙ ap (λ (c : Bool). cond c (meant x ∷ phis (map meant (drop (k + 1) is))) []) t

  one_more : (is : List Inst) (k : ℕ) (x d : Inst) → k < length is → x ≡ get_or is k d → map meant (take (k + 1) is) ≡ map meant (take k is) ++ meant x ∷ []
  one_more is k x d lt e =
      let count : k + 1 ≡ suc k = omega arith in
      ap (map meant) (ap (λ (n : ℕ). take n is) count ∙ take-suc is k d lt ∙ ap (λ (y : Inst). take k is ++ y ∷ []) (sym e)) ∙ map-append meant (take k is) (x ∷ [])

  pub led_none : (is : List Inst) → IsLed is 0
  led_none is = refl

  pub led_more : (is : List Inst) (k : ℕ) (x d : Inst) → k < length is → x ≡ get_or is k d → is_phi (meant x).operation ≡ true → IsLed is k → IsLed is (k + 1)
  led_more is k x d lt e t h =
      h
      ∙ ap (λ (l : List m.Instruction). map meant (take k is) ++ l) (next_phis is k x d true lt e t)
      ∙ sym (append_assoc (map meant (take k is)) (meant x ∷ []) (phis (map meant (drop (k + 1) is))))
      ∙ ap (λ (l : List m.Instruction). l ++ phis (map meant (drop (k + 1) is))) (sym (one_more is k x d lt e))

  -- no phi follows
  pub led_end : (is : List Inst) (k : ℕ) (x d : Inst) → k < length is → x ≡ get_or is k d → is_phi (meant x).operation ≡ false → IsLed is k → phis (map meant is) ≡ map meant (take k is)
  led_end is k x d lt e t h = h ∙ ap (λ (l : List m.Instruction). map meant (take k is) ++ l) (next_phis is k x d false lt e t) ∙ append-nil (map meant (take k is))

  pub led_all : (is : List Inst) (k : ℕ) → length is ≤ k → IsLed is k → phis (map meant is) ≡ map meant (take k is)
  led_all is k le h = h ∙ ap (λ (l : List Inst). map meant (take k is) ++ phis (map meant l)) (drop_all k is le) ∙ append-nil (map meant (take k is))

  pub led_count : (is : List Inst) (k : ℕ) → k ≤ length is → phis (map meant is) ≡ map meant (take k is) → k ≡ length (phis (map meant is))
  led_count is k le e =
      let same = ap length e in
      let many = length-map (take k is) meant in
      let taken = length-take k is in
      omega (arith, same, many, taken, le)

  -- what one phi more gets
  pub gets_more : (from : ℕ) (is : List Inst) (k : ℕ) (x d : Inst) (old now new : List Move) → k < length is → x ≡ get_or is k d
      → GainsMoves old now (gets s from (map meant (take k is))) → GainsMoves now new (phi_moves (scope_in s.lists s.function) (label_of s.lists s.function from) (meant x).result (meant x).operation)
      → GainsMoves old new (gets s from (map meant (take (k + 1) is)))
  gets_more from is k x d old now new lt e h step =
      let one : gets s from (meant x ∷ []) ≡ phi_moves (scope_in s.lists s.function) (label_of s.lists s.function from) (meant x).result (meant x).operation = append-nil (phi_moves (scope_in s.lists s.function) (label_of s.lists s.function from) (meant x).result (meant x).operation) in
      let split : gets s from (map meant (take k is)) ++ phi_moves (scope_in s.lists s.function) (label_of s.lists s.function from) (meant x).result (meant x).operation ≡ gets s from (map meant (take (k + 1) is)) =
      ap (λ (l : List actions.Move). gets s from (map meant (take k is)) ++ l) (sym one)
      ∙ sym (flat_map-append (λ (i : m.Instruction). phi_moves (scope_in s.lists s.function) (label_of s.lists s.function from) i.result i.operation) (map meant (take k is)) (meant x ∷ []))
      ∙ ap (gets s from) (sym (one_more is k x d lt e)) in
      moves_same old new (gets s from (map meant (take k is)) ++ phi_moves (scope_in s.lists s.function) (label_of s.lists s.function from) (meant x).result (meant x).operation) (gets s from (map meant (take (k + 1) is))) split
      (moves_more old now new (gets s from (map meant (take k is))) (phi_moves (scope_in s.lists s.function) (label_of s.lists s.function from) (meant x).result (meant x).operation) h step)

-- ---- the way into a block

module _ (a : Lists) (f : Function) (labels : AreApart (labels_in a f)) (to : ℕ) (b : Block) (at : slice_get (function_blocks f) to ≡ Some b) where
  pub way_is : (from : LocalName) → edge_in (scope_in a f) from (label_of a f to)
      ≡ record {
        block = to;
        position = length (phis (map (instruction_of a f) b.instructions));
        moves = flat_map (λ (i : m.Instruction). phi_moves (scope_in a f) from i.result i.operation) (phis (map (instruction_of a f) b.instructions));
      }
  way_is from =
      let bs = blocks_of (function_of a f) in
      let apart = subst AreApart (sym (labels_are a f)) labels in
      let here : slice_get bs to ≡ Some (block_of a f b) = ap (λ (l : List m.Block). slice_get l to) (blocks_all a f) ∙ mapped_at (block_of a f) (function_blocks f) to b at in
      let named : label_of a f to ≡ local_view b.name = get_or_from_slice_get (labels_in a f) to (local_view b.name) (LocalName.Numbered 0) (mapped_at (λ (x : Block). local_view x.name) (function_blocks f) to b at) in
      ap (edge_in (scope_in a f) from) named
      ∙ (λ j. edge_into (scope_in a f) from (block_numbered bs to (block_of a f b) apart here j) (block_found bs to (block_of a f b) apart here j))
