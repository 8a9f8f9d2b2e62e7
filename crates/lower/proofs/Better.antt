-- A body as it stands, or one that finds constants preloaded.
use Rattle.std.proofs.Common.{◌≡◌, ℕ, ◌+◌, ◌≤◌, List, [], ◌∷◌, ◌++◌, length, take, drop, Bool, true, false, not, ◌&&◌, nat_le, if◌then◌else◌, ◌==◌, Result, Ok, Err, OnOk, IfErr, subst, refl, sym, ap, ◌∙◌, arith}
use Rattle.std.proofs.Math.Seq.{take-append_seam, drop-append_seam}
use Rattle.std.proofs.Math.Dec.{eqb-suc-zero}
use Rattle.std.proofs.lemmas.List.{length-append}
use Rattle.std.proofs.lemmas.Bool.{leb-true, and_parts}
use Rattle.syntax.specs.Tree.{Function, Stmts, Program}
use Rattle.bytecode.specs.declared.instr.Instr.{Instr}
use Rattle.bytecode.specs.declared.limits.TheConstants.{MOST_REGISTERS}
use Rattle.lower_spec.specs.Expressions.{Layout}
use Rattle.lower_spec.specs.Programs.{parameter_locals}
use Rattle.selection.specs.Lists.{Lists}
use Rattle.selection.specs.Simples.{Written}
use Rattle.selection.specs.Loops.{in_loops}
use Rattle.selection.specs.Programs.{no_exits, body_with, body_preloaded, body_better, body_written, nothing_preloaded}
use Rattle.selection.proofs.Longer.{stmts_longer}
use Rattle.selection.proofs.stands.Standing.{Grows, IsFront}
use Rattle.lower_exprs.specs.declared.fault.LowerFailure.{LowerFailure}
use Rattle.lower_exprs.specs.Limits.{NeedsMore}
use Rattle.lower_exprs.specs.Fragments.{Adds, of_written}
use Rattle.lower_exprs.proofs.Adding.{same, needs_more}

-- a body that is made once more, in place of the one that is cut off
pub made_once_more : {old cut new : List Instr} {a b : Written} {l : Lists} {r : Result ℕ LowerFailure} {n : ℕ} →
    cut ≡ old → a ≡ b → OnOk r (Adds (of_written a) cut new l r) → IfErr r (λ why. NeedsMore why n) → n ≤ b.lists.registers → Adds (of_written b) old new l r
made_once_more {new = new} {b = b} {l = l} {r = Ok to} ec e k f more = subst (λ (is : List Instr). Adds (of_written b) is new l (Ok to)) ec (same (ap of_written e) k)
made_once_more {b = b} {r = Err why} {n = n} ec e k f more = record { code = tt; lists = tt; end = tt; fails = needs_more why n b.lists.registers more f }

-- what others lie in front of
front_taken : {A : Type 0} (xs ys : List A) → IsFront xs ys → take (length xs) ys ≡ xs
front_taken xs ys h = ap (λ l. take (length xs) l) h.1 ∙ take-append_seam xs h.0

front_fits : {A : Type 0} (xs ys : List A) → IsFront xs ys → length xs ≤ length ys
front_fits xs ys h = let a : length ys ≡ length xs + length h.0 = ap length h.1 ∙ length-append xs h.0 in omega (arith, a)

module _ (p : Program) (f : Function) (body : Stmts) (from : ℕ) (l : Lists) where
  abbrev Plain : Written
  Plain = body_with nothing_preloaded p f body from l

  goes_on : Grows (record l { registers = length f.parameters; layout = nothing_preloaded }) Plain.lists
  goes_on = stmts_longer p body (no_exits f.result) (parameter_locals f.parameters) from (record l { registers = length f.parameters; layout = nothing_preloaded })

  -- what stood in the lists before is still there
  pub arguments_fit : length l.arguments ≤ length (body_with nothing_preloaded p f body from l).lists.arguments
  arguments_fit = front_fits l.arguments Plain.lists.arguments goes_on.arguments

  pub texts_fit : length l.texts ≤ length (body_with nothing_preloaded p f body from l).lists.texts
  texts_fit = front_fits l.texts Plain.lists.texts goes_on.texts

  plain_by : (ws : List ℕ) → (not (length ws == 0) && nat_le (Plain.lists.registers + length ws) 65535) ≡ false → body_better p f body from l Plain ws ≡ Plain
  plain_by [] h = refl
  plain_by (w ∷ ws) h =
      let room = nat_le (Plain.lists.registers + length (w ∷ ws)) 65535 in
      ap (λ b. if b then body_preloaded (record { writable = Plain.lists.registers; constants = w ∷ ws }) p f body from l else Plain) (sym (ap (λ b. not b && room) (eqb-suc-zero (length ws))) ∙ h)

  ready_by : (ws : List ℕ) → (not (length ws == 0) && nat_le (Plain.lists.registers + length ws) 65535) ≡ true → body_better p f body from l Plain ws ≡ body_preloaded (record { writable = Plain.lists.registers; constants = ws }) p f body from l
  ready_by [] h = absurd (cc)
  ready_by (w ∷ ws) h =
      let room = nat_le (Plain.lists.registers + length (w ∷ ws)) 65535 in
      ap (λ b. if b then body_preloaded (record { writable = Plain.lists.registers; constants = w ∷ ws }) p f body from l else Plain) (sym (ap (λ b. not b && room) (eqb-suc-zero (length ws))) ∙ h)

  module _ (m : Lists) (ws : List ℕ) (is : m ≡ (body_with nothing_preloaded p f body from l).lists) (are : ws ≡ in_loops from (body_with nothing_preloaded p f body from l).code) where
    -- the body as it stands is made, or what stands for it is cut off again and it is made once more
    pub stays_plain : (not (length ws == 0) && nat_le (m.registers + length ws) 65535) ≡ false → body_written p f body from l ≡ body_with nothing_preloaded p f body from l
    stays_plain h =
        plain_by (in_loops from Plain.code) (sym (λ j. not (length (are j) == 0) && nat_le ((is j).registers + length (are j)) 65535) ∙ h)

    pub gets_better : (not (length ws == 0) && nat_le (m.registers + length ws) 65535) ≡ true → (cut : Lists) (n k : ℕ) → n ≡ length l.arguments → k ≡ length l.texts → cut ≡ record m { arguments = take n m.arguments; texts = take k m.texts } →
        body_preloaded (record { writable = m.registers; constants = ws }) p f body from cut ≡ body_written p f body from l
    gets_better h cut n k en ek e =
        let a : cut.arguments ≡ l.arguments = (λ j. (e j).arguments) ∙ (λ j. take (en j) (is j).arguments) ∙ front_taken l.arguments Plain.lists.arguments goes_on.arguments in
        let t : cut.texts ≡ l.texts = (λ j. (e j).texts) ∙ (λ j. take (ek j) (is j).texts) ∙ front_taken l.texts Plain.lists.texts goes_on.texts in
        let layout : Layout = record { writable = Plain.lists.registers; constants = in_loops from Plain.code } in
        (λ j. body_preloaded (record { writable = (is j).registers; constants = are j }) p f body from cut)
        ∙ (λ j. body_preloaded layout p f body from (record { arguments = a j; texts = t j; registers = 0; layout = layout }))
        ∙ sym (ready_by (in_loops from Plain.code) (sym (λ j. not (length (are j) == 0) && nat_le ((is j).registers + length (are j)) 65535) ∙ h))

  more_by : (b : Bool) (ws : List ℕ) → Plain.lists.registers ≤ (if b then body_preloaded (record { writable = Plain.lists.registers; constants = ws }) p f body from l else Plain).lists.registers
  more_by true ws = omega arith
  more_by false ws = omega arith

  better_more : (ws : List ℕ) → Plain.lists.registers ≤ (body_better p f body from l Plain ws).lists.registers
  better_more [] = omega arith
  better_more (w ∷ ws) = more_by (nat_le (Plain.lists.registers + length (w ∷ ws)) MOST_REGISTERS) (w ∷ ws)

  pub body_more : (body_with nothing_preloaded p f body from l).lists.registers ≤ (body_written p f body from l).lists.registers
  body_more = better_more (in_loops from Plain.code)

-- where a body is made once more, there is room
pub has_room : (registers : ℕ) (ws : List ℕ) → (not (length ws == 0) && nat_le (registers + length ws) 65535) ≡ true → registers + length ws ≤ 65535
has_room registers ws h = leb-true (registers + length ws) 65535 (and_parts (not (length ws == 0)) (nat_le (registers + length ws) 65535) h).1

-- the instructions in front of others, and those behind
pub behind_others : (code slice others made : List Instr) (n : ℕ) → n ≡ length others → slice ≡ code → code ≡ others ++ made → drop n slice ≡ made
behind_others code slice others made n e same h = (λ j. drop (e j) ((same ∙ h) j)) ∙ drop-append_seam others made

pub in_front : (code others made : List Instr) (n : ℕ) → n ≡ length others → code ≡ others ++ made → take n code ≡ others
in_front code others made n e h = (λ j. take (e j) (h j)) ∙ take-append_seam others made
