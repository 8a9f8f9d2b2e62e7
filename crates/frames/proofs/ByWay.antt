-- Which instructions begin, commit, cancel and return, by their ways.
use Rattle.std.proofs.Common.{◌≡◌, ℕ, Bool, true, false, List, [], ◌∷◌, Option, Some, None, Result, Ok, Err, refl, sym, ap, ◌∙◌}
use Rattle.std.specs.Prelude.{slice_get, if◌then◌else◌, nat_lt, length}
use Rattle.syntax.specs.declared.thread_end.Trap.{Trap}
use Rattle.syntax.specs.declared.thread_end.Trap.TheVariants.{Index}
use Rattle.bytecode.specs.Effects.{Effect}
use Rattle.bytecode.specs.Code.{Code, FunctionCode, Configuration, Frame, Instr, onward, going, register, effect_of, or_traps, call_effect, return_effect, print_effect}
use Rattle.frames.proofs.Leading.{Way, way_of}

-- an effect that opens no begin, closes none and does not end
abbrev pub is_plain : Effect Configuration → Bool
is_plain (Effect.Begin c d) = false
is_plain (Effect.Commit c) = false
is_plain Effect.Cancel = false
is_plain (Effect.CancelOuter n) = false
is_plain Effect.End = false
is_plain x = true

abbrev pub is_return : Effect Configuration → Bool
is_return (Effect.Pure c) = true
is_return Effect.End = true
is_return x = false

abbrev pub IsOfKind : Configuration → Way → Effect Configuration → Type 0
IsOfKind c Way.Opens x = (to : ℕ) × (x ≡ Effect.Begin (onward c) (going c to))
IsOfKind c Way.Closes x = x ≡ Effect.Commit (onward c)
IsOfKind c Way.Cancels x = x ≡ Effect.Cancel
IsOfKind c (Way.CancelsOuter n) x = x ≡ Effect.CancelOuter n
IsOfKind c Way.Ends x = is_return x ≡ true
IsOfKind c w x = is_plain x ≡ true

plain_or_traps : (r : Result ℕ Trap) (next : ℕ → Configuration) → is_plain (or_traps r next) ≡ true
plain_or_traps (Ok w) next = refl
plain_or_traps (Err k) next = refl

plain_tested : (b : Bool) (x : Effect Configuration) (k : Trap) → is_plain x ≡ true → is_plain (if b then x else Effect.Traps k) ≡ true
plain_tested true x k h = h
plain_tested false x k h = refl

plain_called : (c : Configuration) (d : ℕ) (args : List ℕ) (o : Option FunctionCode) → is_plain (call_effect c d args o) ≡ true
plain_called c d args None = refl
plain_called c d args (Some g) = plain_tested (nat_lt (length c.frames) 63) (Effect.Pure _) _ refl

plain_printed : (c : Configuration) (o : Option (List ℕ)) → is_plain (print_effect c o) ≡ true
plain_printed c None = refl
plain_printed c (Some t) = refl

return_kind : (fs : List Frame) (w : ℕ) → is_return (return_effect fs w) ≡ true
return_kind [] w = refl
return_kind (f ∷ fs) w = refl

pub kind_of : (code : Code) (c : Configuration) (i : Instr) → IsOfKind c (way_of i) (effect_of code c (Some i))
kind_of code c (Instr.Constant d n) = refl
kind_of code c (Instr.Move d a) = refl
kind_of code c (Instr.Compute op t d a b) = plain_or_traps _ _
kind_of code c (Instr.Negate t d a) = plain_or_traps _ _
kind_of code c (Instr.Complement u d a) = refl
kind_of code c (Instr.Extend d a) = refl
kind_of code c (Instr.Low d a) = refl
kind_of code c (Instr.Jump to) = refl
kind_of code c (Instr.JumpZero a to) = refl
kind_of code c (Instr.JumpNonzero a to) = refl
kind_of code c (Instr.Check i n) = plain_tested (nat_lt (register c i) n) (Effect.Pure (onward c)) Index refl
kind_of code c (Instr.Read d a) = refl
kind_of code c (Instr.ReadAt d a n i) = plain_tested (nat_lt (register c i) n) (Effect.Read _ _) Index refl
kind_of code c (Instr.Write a r) = refl
kind_of code c (Instr.WriteAt a n i r) = plain_tested (nat_lt (register c i) n) (Effect.Write _ _ _) Index refl
kind_of code c (Instr.Begin to) = (to, refl)
kind_of code c Instr.Commit = refl
kind_of code c Instr.Cancel = refl
kind_of code c (Instr.CancelOuter n) = refl
kind_of code c Instr.Irrevocable = refl
kind_of code c (Instr.Call g d args) = plain_called c d args (slice_get code.functions g)
kind_of code c (Instr.Return a) = return_kind c.frames _
kind_of code c (Instr.PrintText k) = plain_printed c (slice_get code.texts k)
kind_of code c (Instr.PrintNumber t a) = refl

-- which way an instruction with such an effect has
pub begins_only : (c d e : Configuration) (w : Way) (x : Effect Configuration) → IsOfKind c w x → x ≡ Effect.Begin d e → (w ≡ Way.Opens) × ((to : ℕ) × (x ≡ Effect.Begin (onward c) (going c to)))
begins_only c d e Way.On x k h = cc (k, ap is_plain h)
begins_only c d e (Way.To to) x k h = cc (k, ap is_plain h)
begins_only c d e (Way.Both to) x k h = cc (k, ap is_plain h)
begins_only c d e Way.Opens x k h = (refl, k)
begins_only c d e Way.Closes x k h = cc (k, h)
begins_only c d e Way.Cancels x k h = cc (k, h)
begins_only c d e (Way.CancelsOuter n) x k h = cc (k, h)
begins_only c d e Way.Ends x k h = cc (k, ap is_return h)

pub commits_only : (c d : Configuration) (w : Way) (x : Effect Configuration) → IsOfKind c w x → x ≡ Effect.Commit d → (w ≡ Way.Closes) × (x ≡ Effect.Commit (onward c))
commits_only c d Way.On x k h = cc (k, ap is_plain h)
commits_only c d (Way.To to) x k h = cc (k, ap is_plain h)
commits_only c d (Way.Both to) x k h = cc (k, ap is_plain h)
commits_only c d Way.Opens x k h = cc (k.1, h)
commits_only c d Way.Closes x k h = (refl, k)
commits_only c d Way.Cancels x k h = cc (k, h)
commits_only c d (Way.CancelsOuter n) x k h = cc (k, h)
commits_only c d Way.Ends x k h = cc (k, ap is_return h)

pub cancels_only : (c : Configuration) (w : Way) (x : Effect Configuration) → IsOfKind c w x → x ≡ Effect.Cancel → w ≡ Way.Cancels
cancels_only c Way.On x k h = cc (k, ap is_plain h)
cancels_only c (Way.To to) x k h = cc (k, ap is_plain h)
cancels_only c (Way.Both to) x k h = cc (k, ap is_plain h)
cancels_only c Way.Opens x k h = cc (k.1, h)
cancels_only c Way.Closes x k h = cc (k, h)
cancels_only c Way.Cancels x k h = refl
cancels_only c (Way.CancelsOuter n) x k h = cc (k, h)
cancels_only c Way.Ends x k h = cc (k, ap is_return h)

-- the number of levels that an effect cancels
abbrev levels_of : Effect Configuration → ℕ
levels_of (Effect.CancelOuter n) = n
levels_of x = 0

pub cancels_outer_only : (n : ℕ) (c : Configuration) (w : Way) (x : Effect Configuration) → IsOfKind c w x → x ≡ Effect.CancelOuter n → w ≡ Way.CancelsOuter n
cancels_outer_only n c Way.On x k h = cc (k, ap is_plain h)
cancels_outer_only n c (Way.To to) x k h = cc (k, ap is_plain h)
cancels_outer_only n c (Way.Both to) x k h = cc (k, ap is_plain h)
cancels_outer_only n c Way.Opens x k h = cc (k.1, h)
cancels_outer_only n c Way.Closes x k h = cc (k, h)
cancels_outer_only n c Way.Cancels x k h = cc (k, h)
cancels_outer_only n c (Way.CancelsOuter m) x k h = ap Way.CancelsOuter (ap levels_of (sym k ∙ h))
cancels_outer_only n c Way.Ends x k h = cc (k, ap is_return h)

pub ends_only : (c : Configuration) (w : Way) (x : Effect Configuration) → IsOfKind c w x → x ≡ Effect.End → w ≡ Way.Ends
ends_only c Way.On x k h = cc (k, ap is_plain h)
ends_only c (Way.To to) x k h = cc (k, ap is_plain h)
ends_only c (Way.Both to) x k h = cc (k, ap is_plain h)
ends_only c Way.Opens x k h = cc (k.1, h)
ends_only c Way.Closes x k h = cc (k, h)
ends_only c Way.Cancels x k h = cc (k, h)
ends_only c (Way.CancelsOuter n) x k h = cc (k, h)
ends_only c Way.Ends x k h = refl
