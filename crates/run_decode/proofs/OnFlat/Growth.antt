-- What stands in pools stands there still when they have grown.
use Rattle.std.proofs.Common.{◌≡◌, ℕ, zero, suc, ◌+◌, ◌-◌, ◌<◌, ◌≤◌, List, [], ◌∷◌, ◌++◌, length, take, drop, get_or, map, append_assoc, append-nil, refl, sym, ap, ◌∙◌, subst, arith, Bool, Some}
use Rattle.std.specs.Prelude.{◌^◌, ℤ, slice_get, zip, if◌then◌else◌}
use Rattle.std.specs.List.{All}
use Rattle.std.proofs.lemmas.List.{drop-append-le, take-append-le, length-append, length-drop, get_or_append_left}
use Rattle.std.proofs.lemmas.List.Elements.{All-head, All-tail}
use Rattle.std.proofs.lemmas.Option.{get_or_from_slice_get}
use Rattle.ir_eval.specs.declared.value.Scalar.{Scalar}
use Rattle.ir_eval.specs.declared.value.Scalar.TheVariants.{Poison}
use Rattle.module_arena.specs.Lists.{Lists}
use Rattle.run_rules.specs.Action as actions
use Rattle.run_rules.specs.Displace.{reach, reach_of, sum_of}
use Rattle.run_rules.specs.Leaves.{Slot}
use Rattle.run_names.specs.Shapes.Shapes.{shape_in}
use Rattle.run_actions.specs.declared.stack.origin.Move.{Move}
use Rattle.run_actions.specs.declared.stack.origin.Origin.{Origin}
use Rattle.run_actions.specs.Stack.Origins.{origin_of, edge_of}
use Rattle.run_actions.specs.declared.edge.SwitchWay.{SwitchWay}
use Rattle.run_actions.specs.declared.edge.Edge.{Edge}
use Rattle.run_actions.specs.declared.values.Arm.{Arm}
use Rattle.run_actions.specs.declared.values.FrozenLeaf.{FrozenLeaf}
use Rattle.run_actions.specs.Edges.{case_way, way_of}
use Rattle.run_actions.specs.Values.{arm_of, part_of}
use Rattle.run_decode.specs.declared.flat.action.Action.{Action}
use Rattle.run_decode.specs.declared.flat.action.Action.TheVariants.{Compute, Compare, Convert, Select, Freeze, Gather, Load, Store, Allocate, Displace, Call, Return, Jump, Branch, Switch, Unreachable, Passed}
use Rattle.run_decode.specs.declared.flat.action.CallParts.{CallParts}
use Rattle.run_decode.specs.declared.flat.action.Term.{Term}
use Rattle.run_decode.specs.declared.flat.leaf.LeafAt.{LeafAt}
use Rattle.run_decode.specs.declared.flat.leaf.LeafAt.TheVariants.{Held, Known}
use Rattle.run_decode.specs.declared.flat.leaf.Span.{Span}
use Rattle.run_decode.specs.declared.flat.pools.Pools.{Pools}
use Rattle.run_decode.specs.Flat.Flat.{no_edge, no_call, leaf_of, origins_of, term_of, terms_of, others_reach, IsGathered, edge_at, cases_of, signature_of, call_of, action_of, IsLeafIn, IsTermIn, HasItsMoves, IsEdgeIn, AreCasesIn, IsCallIn, AreSummed, IsWithin}
use Rattle.run_decode.specs.Flat.Grown.{Adds, Grows, IsLeaf, AreLeaves, AreSlots, AreTerms, IsEdge, AreCases, AreArms, AreParts, Stands}
use Rattle.run_decode.specs.Flat.Spans.{spanned, IsSpanIn, IsLonger}

-- ---- lists

pub longer_none : {A : Type 0} (xs : List A) → IsLonger xs xs
longer_none xs = ([], sym (append-nil xs))

pub longer_then : {A : Type 0} (xs ys zs : List A) → IsLonger xs ys → IsLonger ys zs → IsLonger xs zs
longer_then {A} xs ys zs h k = (h.0 ++ k.0, k.1 ∙ ap (λ (l : List A). l ++ k.0) h.1 ∙ append_assoc xs h.0 k.0)

pub longer_length : {A : Type 0} (xs ys : List A) → IsLonger xs ys → length xs ≤ length ys
longer_length xs ys h = let same = ap length h.1 in let both = length-append xs h.0 in omega (arith, same, both)

pub span_stays : {A : Type 0} (xs ys : List A) (s : Span) → IsLonger xs ys → IsSpanIn xs s → IsSpanIn ys s
span_stays xs ys s h w = let more = longer_length xs ys h in let le = w.within in record { within = omega (arith, more, le); fits = w.fits }

-- the items between two places
part_same : {A : Type 0} (xs ys : List A) (first count : ℕ) → IsLonger xs ys → first + count ≤ length xs → take count (drop first ys) ≡ take count (drop first xs)
part_same {A} xs ys first count h le =
    let left = length-drop first xs in
    ap (λ (l : List A). take count (drop first l)) h.1
    ∙ ap (λ (l : List A). take count l) (drop-append-le first xs h.0 (omega (arith, le)))
    ∙ take-append-le count (drop first xs) h.0 (omega (arith, le, left))

pub spanned_same : {A : Type 0} (xs ys : List A) (s : Span) → IsLonger xs ys → IsSpanIn xs s → spanned ys s ≡ spanned xs s
spanned_same xs ys s h w = part_same xs ys s.first s.count h w.within

got_front : {A : Type 0} (xs more : List A) (k : ℕ) (x : A) → slice_get xs k ≡ Some x → slice_get (xs ++ more) k ≡ Some x
got_front [] more k x e = cc
got_front (y ∷ xs) more zero x e = e
got_front (y ∷ xs) more (suc k) x e = got_front xs more k x e

pub got_same : {A : Type 0} (xs ys : List A) (k : ℕ) (x : A) → IsLonger xs ys → slice_get xs k ≡ Some x → slice_get ys k ≡ Some x
got_same {A} xs ys k x h e = ap (λ (l : List A). slice_get l k) h.1 ∙ got_front xs h.0 k x e

pub read_same : {A : Type 0} (xs ys : List A) (k : ℕ) (d : A) → IsLonger xs ys → k < length xs → get_or ys k d ≡ get_or xs k d
read_same {A} xs ys k d h lt = ap (λ (l : List A). get_or l k d) h.1 ∙ get_or_append_left xs h.0 d k lt

-- ---- pools

pub grows_none : (p : Pools) → Grows p p
grows_none p = record {
  known = longer_none p.known;
  origins = longer_none p.origins;
  slots = longer_none p.slots;
  terms = longer_none p.terms;
  sums = longer_none p.sums;
  moves = longer_none p.moves;
  edges = longer_none p.edges;
  cases = longer_none p.cases;
  arms = longer_none p.arms;
  parts = longer_none p.parts;
  calls = longer_none p.calls;
  types = longer_none p.types;
}

pub grows_then : (p q r : Pools) → Grows p q → Grows q r → Grows p r
grows_then p q r h k = record {
  known = longer_then p.known q.known r.known h.known k.known;
  origins = longer_then p.origins q.origins r.origins h.origins k.origins;
  slots = longer_then p.slots q.slots r.slots h.slots k.slots;
  terms = longer_then p.terms q.terms r.terms h.terms k.terms;
  sums = longer_then p.sums q.sums r.sums h.sums k.sums;
  moves = longer_then p.moves q.moves r.moves h.moves k.moves;
  edges = longer_then p.edges q.edges r.edges h.edges k.edges;
  cases = longer_then p.cases q.cases r.cases h.cases k.cases;
  arms = longer_then p.arms q.arms r.arms h.arms k.arms;
  parts = longer_then p.parts q.parts r.parts h.parts k.parts;
  calls = longer_then p.calls q.calls r.calls h.calls k.calls;
  types = longer_then p.types q.types r.types h.types k.types;
}

-- no call is new

pub adds_none : (p : Pools) → Adds p p
adds_none p = record { grows = grows_none p; calls = refl }

pub adds_then : (p q r : Pools) → Adds p q → Adds q r → Adds p r
adds_then p q r h k = record { grows = grows_then p q r h.grows k.grows; calls = k.calls ∙ h.calls }

-- one pool has grown

pub known_add : (p : Pools) (xs : List Scalar) → IsLonger p.known xs → Adds p (record p { known = xs })
known_add p xs h = record {
  grows = record { known = h; origins = longer_none p.origins; slots = longer_none p.slots; terms = longer_none p.terms; sums = longer_none p.sums; moves = longer_none p.moves; edges = longer_none p.edges; cases = longer_none p.cases; arms = longer_none p.arms; parts = longer_none p.parts; calls = longer_none p.calls; types = longer_none p.types };
  calls = refl;
}

pub origins_add : (p : Pools) (xs : List Origin) → IsLonger p.origins xs → Adds p (record p { origins = xs })
origins_add p xs h = record {
  grows = record { known = longer_none p.known; origins = h; slots = longer_none p.slots; terms = longer_none p.terms; sums = longer_none p.sums; moves = longer_none p.moves; edges = longer_none p.edges; cases = longer_none p.cases; arms = longer_none p.arms; parts = longer_none p.parts; calls = longer_none p.calls; types = longer_none p.types };
  calls = refl;
}

pub slots_add : (p : Pools) (xs : List Slot) → IsLonger p.slots xs → Adds p (record p { slots = xs })
slots_add p xs h = record {
  grows = record { known = longer_none p.known; origins = longer_none p.origins; slots = h; terms = longer_none p.terms; sums = longer_none p.sums; moves = longer_none p.moves; edges = longer_none p.edges; cases = longer_none p.cases; arms = longer_none p.arms; parts = longer_none p.parts; calls = longer_none p.calls; types = longer_none p.types };
  calls = refl;
}

pub terms_add : (p : Pools) (xs : List Term) → IsLonger p.terms xs → Adds p (record p { terms = xs })
terms_add p xs h = record {
  grows = record { known = longer_none p.known; origins = longer_none p.origins; slots = longer_none p.slots; terms = h; sums = longer_none p.sums; moves = longer_none p.moves; edges = longer_none p.edges; cases = longer_none p.cases; arms = longer_none p.arms; parts = longer_none p.parts; calls = longer_none p.calls; types = longer_none p.types };
  calls = refl;
}

pub sums_add : (p : Pools) (xs : List ℤ) → IsLonger p.sums xs → Adds p (record p { sums = xs })
sums_add p xs h = record {
  grows = record { known = longer_none p.known; origins = longer_none p.origins; slots = longer_none p.slots; terms = longer_none p.terms; sums = h; moves = longer_none p.moves; edges = longer_none p.edges; cases = longer_none p.cases; arms = longer_none p.arms; parts = longer_none p.parts; calls = longer_none p.calls; types = longer_none p.types };
  calls = refl;
}

pub moves_add : (p : Pools) (xs : List Move) → IsLonger p.moves xs → Adds p (record p { moves = xs })
moves_add p xs h = record {
  grows = record { known = longer_none p.known; origins = longer_none p.origins; slots = longer_none p.slots; terms = longer_none p.terms; sums = longer_none p.sums; moves = h; edges = longer_none p.edges; cases = longer_none p.cases; arms = longer_none p.arms; parts = longer_none p.parts; calls = longer_none p.calls; types = longer_none p.types };
  calls = refl;
}

pub edges_add : (p : Pools) (xs : List Edge) → IsLonger p.edges xs → Adds p (record p { edges = xs })
edges_add p xs h = record {
  grows = record { known = longer_none p.known; origins = longer_none p.origins; slots = longer_none p.slots; terms = longer_none p.terms; sums = longer_none p.sums; moves = longer_none p.moves; edges = h; cases = longer_none p.cases; arms = longer_none p.arms; parts = longer_none p.parts; calls = longer_none p.calls; types = longer_none p.types };
  calls = refl;
}

pub cases_add : (p : Pools) (xs : List SwitchWay) → IsLonger p.cases xs → Adds p (record p { cases = xs })
cases_add p xs h = record {
  grows = record { known = longer_none p.known; origins = longer_none p.origins; slots = longer_none p.slots; terms = longer_none p.terms; sums = longer_none p.sums; moves = longer_none p.moves; edges = longer_none p.edges; cases = h; arms = longer_none p.arms; parts = longer_none p.parts; calls = longer_none p.calls; types = longer_none p.types };
  calls = refl;
}

pub arms_add : (p : Pools) (xs : List Arm) → IsLonger p.arms xs → Adds p (record p { arms = xs })
arms_add p xs h = record {
  grows = record { known = longer_none p.known; origins = longer_none p.origins; slots = longer_none p.slots; terms = longer_none p.terms; sums = longer_none p.sums; moves = longer_none p.moves; edges = longer_none p.edges; cases = longer_none p.cases; arms = h; parts = longer_none p.parts; calls = longer_none p.calls; types = longer_none p.types };
  calls = refl;
}

pub parts_add : (p : Pools) (xs : List FrozenLeaf) → IsLonger p.parts xs → Adds p (record p { parts = xs })
parts_add p xs h = record {
  grows = record { known = longer_none p.known; origins = longer_none p.origins; slots = longer_none p.slots; terms = longer_none p.terms; sums = longer_none p.sums; moves = longer_none p.moves; edges = longer_none p.edges; cases = longer_none p.cases; arms = longer_none p.arms; parts = h; calls = longer_none p.calls; types = longer_none p.types };
  calls = refl;
}

pub types_add : (p : Pools) (xs : List ℕ) → IsLonger p.types xs → Adds p (record p { types = xs })
types_add p xs h = record {
  grows = record { known = longer_none p.known; origins = longer_none p.origins; slots = longer_none p.slots; terms = longer_none p.terms; sums = longer_none p.sums; moves = longer_none p.moves; edges = longer_none p.edges; cases = longer_none p.cases; arms = longer_none p.arms; parts = longer_none p.parts; calls = longer_none p.calls; types = h };
  calls = refl;
}

pub calls_grow : (p : Pools) (xs : List CallParts) → IsLonger p.calls xs → Grows p (record p { calls = xs })
calls_grow p xs h = record { known = longer_none p.known; origins = longer_none p.origins; slots = longer_none p.slots; terms = longer_none p.terms; sums = longer_none p.sums; moves = longer_none p.moves; edges = longer_none p.edges; cases = longer_none p.cases; arms = longer_none p.arms; parts = longer_none p.parts; calls = h; types = longer_none p.types }

-- ---- what is in them

module _ (p q : Pools) (g : Grows p q) where
  pub leaf_in_stays : (l : LeafAt) → IsLeafIn p l → IsLeafIn q l
  leaf_in_stays (Held place) w = tt
  leaf_in_stays (Known place) w = let more = longer_length p.known q.known g.known in omega (arith, w, more)

  pub leaf_same : (l : LeafAt) → IsLeafIn p l → leaf_of q l ≡ leaf_of p l
  leaf_same (Held place) w = refl
  leaf_same (Known place) w = ap actions.Known (read_same p.known q.known place Poison g.known w)

  pub leaf_stays : (l : LeafAt) (o : actions.Origin) → IsLeaf p l o → IsLeaf q l o
  leaf_stays l o h = record { within = leaf_in_stays l h.within; means = leaf_same l h.within ∙ h.means }

  pub origins_same : (s : Span) → IsSpanIn p.origins s → origins_of q s ≡ origins_of p s
  origins_same s w = ap (map origin_of) (spanned_same p.origins q.origins s g.origins w)

  pub leaves_stay : (s : Span) (os : List actions.Origin) → AreLeaves p s os → AreLeaves q s os
  leaves_stay s os h = record { within = span_stays p.origins q.origins s g.origins h.within; means = origins_same s h.within ∙ h.means }

  pub slots_stay : (s : Span) (ss : List Slot) → AreSlots p s ss → AreSlots q s ss
  slots_stay s ss h = record { within = span_stays p.slots q.slots s g.slots h.within; means = spanned_same p.slots q.slots s g.slots h.within ∙ h.means }

  pub arms_stay : (s : Span) (os : List (actions.Origin × actions.Origin)) → AreArms p s os → AreArms q s os
  arms_stay s os h = record { within = span_stays p.arms q.arms s g.arms h.within; means = ap (map arm_of) (spanned_same p.arms q.arms s g.arms h.within) ∙ h.means }

  pub parts_stay : (s : Span) (os : List (Bool × actions.Origin)) → AreParts p s os → AreParts q s os
  parts_stay s os h = record { within = span_stays p.parts q.parts s g.parts h.within; means = ap (map part_of) (spanned_same p.parts q.parts s g.parts h.within) ∙ h.means }

  -- terms

  pub terms_in_stay : (ts : List Term) → All (IsTermIn p) ts → All (IsTermIn q) ts
  terms_in_stay ts w k d lt = leaf_in_stays (get_or ts k d).index (w k d lt)

  pub term_same : (t : Term) → IsTermIn p t → term_of q t ≡ term_of p t
  term_same t w = ap (λ (o : actions.Origin). record { index = o; width = t.width; size = t.size }) (leaf_same t.index w)

  pub terms_same : (ts : List Term) → All (IsTermIn p) ts → map (term_of q) ts ≡ map (term_of p) ts
  terms_same [] w = refl
  terms_same (t ∷ ts) w = λ i. term_same t (All-head (IsTermIn p) t ts w) i ∷ terms_same ts (All-tail (IsTermIn p) t ts w) i

  pub others_same : (read : actions.Origin → Scalar) (ts : List Term) → All (IsTermIn p) ts → others_reach q read ts ≡ others_reach p read ts
  others_same read [] w = refl
  others_same read (t ∷ ts) w =
      let here = leaf_same t.index (All-head (IsTermIn p) t ts w) in
      let others = others_same read ts (All-tail (IsTermIn p) t ts w) in
      λ i. if t.gathered then others i else sum_of (reach (read (here i)) t.width t.size) (others i)

  pub gathered_stay : (ts : List Term) (sum : ℤ) → All (IsTermIn p) ts → IsGathered p ts sum → IsGathered q ts sum
  gathered_stay ts sum w h = λ read known. ap (reach_of read) (terms_same ts w) ∙ h read known ∙ ap (sum_of (Some sum)) (sym (others_same read ts w))

  pub summed_stay : (s : Span) (sum : ℕ) → AreSummed p s sum → AreSummed q s sum
  summed_stay s sum h =
      let same = sym (spanned_same p.terms q.terms s g.terms h.terms_there) in
      record {
        total = h.total;
        total_there = got_same p.sums q.sums sum h.total g.sums h.total_there;
        terms_there = span_stays p.terms q.terms s g.terms h.terms_there;
        leaves = subst (All (IsTermIn q)) same (terms_in_stay (spanned p.terms s) h.leaves);
        gathered = subst (λ (ts : List Term). IsGathered q ts h.total) same (gathered_stay (spanned p.terms s) h.total h.leaves h.gathered);
        near = h.near;
        few = h.few;
        sizes = subst (All (λ (t : Term). t.size ≤ 2 ^ 40)) same h.sizes;
      }

  pub all_terms_same : (s : Span) (sum : ℕ) → AreSummed p s sum → terms_of q s ≡ terms_of p s
  all_terms_same s sum h = ap (map (term_of q)) (spanned_same p.terms q.terms s g.terms h.terms_there) ∙ terms_same (spanned p.terms s) h.leaves

  pub terms_stay : (s : Span) (sum : ℕ) (ts : List actions.Term) → AreTerms p s sum ts → AreTerms q s sum ts
  terms_stay s sum ts h = record { within = summed_stay s sum h.within; means = all_terms_same s sum h.within ∙ h.means }

  -- edges

  pub its_moves_stay : (e : Edge) → HasItsMoves p e → HasItsMoves q e
  its_moves_stay e h = let more = longer_length p.moves q.moves g.moves in let stored = h.stored in record { ordered = h.ordered; stored = omega (arith, more, stored) }

  pub way_same : (e : Edge) → HasItsMoves p e → way_of q.moves e ≡ way_of p.moves e
  way_same e h =
      let ordered = h.ordered in
      let stored = h.stored in
      ap (edge_of e.block e.position) (part_same p.moves q.moves e.first (e.end - e.first) g.moves (omega (arith, ordered, stored)))

  pub edge_in_stays : (n : ℕ) → IsEdgeIn p n → IsEdgeIn q n
  edge_in_stays n h = record { edge = h.edge; there = got_same p.edges q.edges n h.edge g.edges h.there; moves = its_moves_stay h.edge h.moves }

  pub edge_same : (n : ℕ) → IsEdgeIn p n → edge_at q n ≡ edge_at p n
  edge_same n h =
      let now = get_or_from_slice_get q.edges n h.edge no_edge (got_same p.edges q.edges n h.edge g.edges h.there) in
      let before = get_or_from_slice_get p.edges n h.edge no_edge h.there in
      ap (way_of q.moves) now ∙ way_same h.edge h.moves ∙ ap (way_of p.moves) (sym before)

  pub edge_stays : (n : ℕ) (e : actions.Edge) → IsEdge p n e → IsEdge q n e
  edge_stays n e h = record { within = edge_in_stays n h.within; means = edge_same n h.within ∙ h.means }

  -- cases

  ways_stay : (cs : List SwitchWay) → All (λ (c : SwitchWay). HasItsMoves p c.edge) cs → All (λ (c : SwitchWay). HasItsMoves q c.edge) cs
  ways_stay cs w k d lt = its_moves_stay (get_or cs k d).edge (w k d lt)

  pub cases_in_stay : (s : Span) → AreCasesIn p s → AreCasesIn q s
  cases_in_stay s h = record {
    there = span_stays p.cases q.cases s g.cases h.there;
    moves = subst (All (λ (c : SwitchWay). HasItsMoves q c.edge)) (sym (spanned_same p.cases q.cases s g.cases h.there)) (ways_stay (spanned p.cases s) h.moves);
  }

  ways_same : (cs : List SwitchWay) → All (λ (c : SwitchWay). HasItsMoves p c.edge) cs → map (case_way q.moves) cs ≡ map (case_way p.moves) cs
  ways_same [] w = refl
  ways_same (c ∷ cs) w =
      let here = way_same c.edge (All-head (λ (x : SwitchWay). HasItsMoves p x.edge) c cs w) in
      let others = ways_same cs (All-tail (λ (x : SwitchWay). HasItsMoves p x.edge) c cs w) in
      λ i. (c.number, here i) ∷ others i

  pub cases_same : (s : Span) → AreCasesIn p s → cases_of q s ≡ cases_of p s
  cases_same s h = ap (map (case_way q.moves)) (spanned_same p.cases q.cases s g.cases h.there) ∙ ways_same (spanned p.cases s) h.moves

  pub cases_stay : (s : Span) (cs : List (ℕ × actions.Edge)) → AreCases p s cs → AreCases q s cs
  cases_stay s cs h = record { within = cases_in_stay s h.within; means = cases_same s h.within ∙ h.means }

  -- calls

  pub call_in_stays : (n : ℕ) → IsCallIn p n → IsCallIn q n
  call_in_stays n h = record {
    call = h.call;
    there = got_same p.calls q.calls n h.call g.calls h.there;
    parameters = span_stays p.types q.types h.call.parameters g.types h.parameters;
    shapes = span_stays p.types q.types h.call.shapes g.types h.shapes;
    arguments = span_stays p.origins q.origins h.call.arguments g.origins h.arguments;
  }

  pub signature_same : (a : Lists) (c : CallParts) → IsSpanIn p.types c.parameters → signature_of q a c ≡ signature_of p a c
  signature_same a c there = ap (λ (tys : List ℕ). record { returns = shape_in a.table c.returns; parameters = map (shape_in a.table) tys; variadic = c.variadic }) (spanned_same p.types q.types c.parameters g.types there)

  call_same : (a : Lists) (to : ℕ) (callee : actions.Origin) (c : CallParts) → IsSpanIn p.types c.parameters → IsSpanIn p.types c.shapes → IsSpanIn p.origins c.arguments
      → call_of q a to callee c ≡ call_of p a to callee c
  call_same a to callee c parameters shapes arguments = λ i.
      actions.Call to (signature_same a c parameters i) callee
      (map (shape_in a.table) (spanned_same p.types q.types c.shapes g.types shapes i))
      (origins_same c.arguments arguments i)

  pub call_at_same : (a : Lists) (to : ℕ) (callee : actions.Origin) (n : ℕ) → IsCallIn p n → call_of q a to callee (get_or q.calls n no_call) ≡ call_of p a to callee (get_or p.calls n no_call)
  call_at_same a to callee n h =
      let now = get_or_from_slice_get q.calls n h.call no_call (got_same p.calls q.calls n h.call g.calls h.there) in
      let before = get_or_from_slice_get p.calls n h.call no_call h.there in
      ap (call_of q a to callee) now ∙ call_same a to callee h.call h.parameters h.shapes h.arguments ∙ ap (call_of p a to callee) (sym before)

  -- actions

  pub within_stays : (x : Action) → IsWithin p x → IsWithin q x
  within_stays (Compute to opcode flags width left right) w = (leaf_in_stays left w.0, leaf_in_stays right w.1)
  within_stays (Compare to predicate samesign width left right) w = (leaf_in_stays left w.0, leaf_in_stays right w.1)
  within_stays (Convert to opcode flags from_width to_width value) w = leaf_in_stays value w
  within_stays (Select to condition arms) w = (leaf_in_stays condition w.0, span_stays p.arms q.arms arms g.arms w.1)
  within_stays (Freeze to parts) w = span_stays p.parts q.parts parts g.parts w
  within_stays (Gather to value) w = span_stays p.origins q.origins value g.origins w
  within_stays (Load to align address slots) w = (leaf_in_stays address w.0, span_stays p.slots q.slots slots g.slots w.1)
  within_stays (Store align address slots value) w = (leaf_in_stays address w.0, span_stays p.slots q.slots slots g.slots w.1, span_stays p.origins q.origins value g.origins w.2)
  within_stays (Allocate to align size count) w = leaf_in_stays count w
  within_stays (Displace to inbounds base terms sum) w = (leaf_in_stays base w.0, summed_stay terms sum w.1)
  within_stays (Call to callee call) w = (leaf_in_stays callee w.0, call_in_stays call w.1)
  within_stays (Return value) w = span_stays p.origins q.origins value g.origins w
  within_stays (Jump edge) w = edge_in_stays edge w
  within_stays (Branch condition then_edge else_edge) w = (leaf_in_stays condition w.0, edge_in_stays then_edge w.1, edge_in_stays else_edge w.2)
  within_stays (Switch value otherwise cases) w = (leaf_in_stays value w.0, edge_in_stays otherwise w.1, cases_in_stay cases w.2)
  within_stays Unreachable w = tt
  within_stays Passed w = tt

  pub action_same : (a : Lists) (x : Action) → IsWithin p x → action_of q a x ≡ action_of p a x
  action_same a (Compute to opcode flags width left right) w = λ i. actions.Compute to opcode flags width (leaf_same left w.0 i) (leaf_same right w.1 i)
  action_same a (Compare to predicate samesign width left right) w = λ i. actions.Compare to predicate samesign width (leaf_same left w.0 i) (leaf_same right w.1 i)
  action_same a (Convert to opcode flags from_width to_width value) w = ap (actions.Convert to opcode flags from_width to_width) (leaf_same value w)
  action_same a (Select to condition arms) w = λ i. actions.Select to (leaf_same condition w.0 i) (map arm_of (spanned_same p.arms q.arms arms g.arms w.1 i))
  action_same a (Freeze to parts) w = ap (λ (xs : List FrozenLeaf). actions.Freeze to (map part_of xs)) (spanned_same p.parts q.parts parts g.parts w)
  action_same a (Gather to value) w = ap (actions.Gather to) (origins_same value w)
  action_same a (Load to align address slots) w = λ i. actions.Load to align (leaf_same address w.0 i) (spanned_same p.slots q.slots slots g.slots w.1 i)
  action_same a (Store align address slots value) w = λ i. actions.Store align (leaf_same address w.0 i) (zip (spanned_same p.slots q.slots slots g.slots w.1 i) (origins_same value w.2 i))
  action_same a (Allocate to align size count) w = ap (actions.Allocate to size align) (leaf_same count w)
  action_same a (Displace to inbounds base terms sum) w = λ i. actions.Displace to inbounds (leaf_same base w.0 i) (all_terms_same terms sum w.1 i)
  action_same a (Call to callee call) w = ap (λ (o : actions.Origin). call_of q a to o (get_or q.calls call no_call)) (leaf_same callee w.0) ∙ call_at_same a to (leaf_of p callee) call w.1
  action_same a (Return value) w = ap actions.Return (origins_same value w)
  action_same a (Jump edge) w = ap actions.Jump (edge_same edge w)
  action_same a (Branch condition then_edge else_edge) w = λ i. actions.Branch (leaf_same condition w.0 i) (edge_same then_edge w.1 i) (edge_same else_edge w.2 i)
  action_same a (Switch value otherwise cases) w = λ i. actions.Switch (leaf_same value w.0 i) (edge_same otherwise w.1 i) (cases_same cases w.2 i)
  action_same a Unreachable w = refl
  action_same a Passed w = refl

  -- what stands in pools stands in those that have grown
  pub stands_still : (a : Lists) (x : Action) (meant : actions.Action) → Stands a p x meant → Stands a q x meant
  stands_still a x meant h = record { within = within_stays x h.within; means = action_same a x h.within ∙ h.means }
