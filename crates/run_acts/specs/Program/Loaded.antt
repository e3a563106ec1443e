-- For `new`, `prepare`, `head` and `body` of `Program`: the functions of a module that is run, by their numbers.
use Rattle.std.specs.Prelude.{◌≡◌, ℕ, List, replicate, map, length, slice_get, Option, Some, None}
use Rattle.module_arena.specs.declared.entry.Function.{Function}
use Rattle.module_arena.specs.Lists.{Lists}
use Rattle.module_arena.specs.View.{module_of}
use Rattle.run_names.specs.declared.callee.CalleeRef.TheVariants as callees
use Rattle.run_names.specs.Told.{alone, callee_seen}
use Rattle.run_rules.specs.Action.{Signature}
use Rattle.run_rules.specs.Calls as calls
use Rattle.run_rules.specs.Look.{look}
use Rattle.run_decode.specs.Body.Bodies.{AreNarrow, Decoded, look_of}
use Rattle.run_decode.specs.Signatures.Met.{Met, known, none_met, written_as}
use Rattle.run_decode.specs.Signatures.Numbers.{AreNumbered, Numbers}
use Rattle.run_acts.specs.declared.program.program.FrameNeeds.{FrameNeeds}

-- the lists of the module, the function types that were met, and the bodies that are there
pub record Loaded : Type 0 where
  pub lists : Lists
  pub met : Met
  pub bodies : List (Option Decoded)

-- nothing was entered yet
abbrev pub nothing_ready : Lists → Loaded
nothing_ready a = record { lists = a; met = none_met a; bodies = replicate (length a.functions) None }

-- the body of the function with that number is there
abbrev pub IsReady : Loaded → ℕ → Decoded → Type 0
IsReady p function body = slice_get p.bodies function ≡ Some (Some body)

-- What is told of a function that has a body: its function type as it is written has that number, and as a callee it has this
-- type and so many leaves
pub record IsHead (a : Lists) (met : Met) (id : ℕ) (h : FrameNeeds) : Type 0 where
  pub function : Function
  pub there : slice_get a.functions id ≡ Some function
  pub signature : Signature
  pub written : signature ≡ written_as a function.result (map (λ p. p.ty) function.parameters) function.variadic
  pub number : slice_get (known met) h.signature ≡ Some signature
  pub callee : callee_seen (alone (module_of a)) (callees.Code id) ≡ calls.Code id signature h.leaves

-- so in a program
abbrev pub HasHead : Loaded → ℕ → FrameNeeds → Type 0
HasHead p id h = IsHead p.lists p.met id h

-- a body is what look-up finds in a run of the module alone, no edge of it sets more leaves than its widest, and its calls are numbered
pub record IsBodyOf (a : Lists) (met : Met) (function : ℕ) (b : Decoded) : Type 0 where
  pub lists : b.lists ≡ a
  pub look : (block position : ℕ) → look_of b block position ≡ look (alone (module_of a)) function block position
  pub narrow : AreNarrow b.pools b.widest
  pub numbered : AreNumbered met a b.pools

-- so in a program
abbrev pub IsBody : Loaded → ℕ → Decoded → Type 0
IsBody p function b = IsBodyOf p.lists p.met function b

-- what was met and what was there stays
pub record Keeps (old new : Loaded) : Type 0 where
  pub lists : new.lists ≡ old.lists
  pub met : Numbers old.met new.met
  pub bodies : (function : ℕ) (b : Decoded) → IsReady old function b → IsReady new function b

-- what holds of a program at every moment: of each function what is told of it is so
pub record IsLoaded (a : Lists) (met : Met) (told : List (Option FrameNeeds)) (decoded : List (Option Decoded)) : Type 0 where
  pub lists : met.lists ≡ a
  pub heads_count : length told ≡ length a.functions
  pub bodies_count : length decoded ≡ length a.functions
  pub heads : (id : ℕ) (h : FrameNeeds) → slice_get told id ≡ Some (Some h) → IsHead a met id h
  pub bodies : (function : ℕ) (b : Decoded) → slice_get decoded function ≡ Some (Some b) → IsBodyOf a met function b
