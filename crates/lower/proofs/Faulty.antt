-- Why no code is made, from a definition to its item and to the program.
use Rattle.std.proofs.Common.{◌≡◌, ℕ, ◌<◌, ◌≤◌, List, [], ◌∷◌, ◌++◌, length, map, drop, take, get_or, ◌+◌, refl, sym, ap, ◌∙◌, subst, append-nil, arith, Some, None, Result, Ok, Err, IfErr, IsErr, IsErrAnd}
use Rattle.std.specs.Prelude.{Contains}
use Rattle.std.proofs.Math.ListN.{get_or-map}
use Rattle.std.proofs.lemmas.List.{length-map, length-append, map-append, take-append-drop}
use Rattle.std.proofs.lemmas.List.Elements.{Contains-get_or, Contains-append_left, Contains-append_right}
use Rattle.syntax.specs.declared.tree.Item.{Item as OwnItem}
use Rattle.syntax.specs.declared.tree.Item.TheVariants as own
use Rattle.syntax.specs.declared.tree.Function.{Function as OwnFunction}
use Rattle.syntax.specs.declared.tree.Stmt.{Stmt as OwnStmt}
use Rattle.syntax.specs.Tree.{Function, Stmts, Item, Defines, Program}
use Rattle.syntax.specs.Views.{item_of, function_of, stmts_of}
use Rattle.bytecode.specs.declared.instr.Instr.{Instr}
use Rattle.bytecode.specs.Code.{FunctionCode}
use Rattle.bytecode.specs.Views.{instr_of}
use Rattle.lower_spec.specs.Programs.{parameter_locals}
use Rattle.selection.specs.Lists.{Lists}
use Rattle.selection.specs.Simples.{Written}
use Rattle.selection.specs.Programs.{FunctionCodes, no_exits, body_written, nothing_preloaded, nothing_made, function_code, put_before, all_made, made_for, made_of, picked_code}
use Rattle.selection.proofs.GrowingStmts.{stmts_more}
use Rattle.lower.specs.declared.fault.LowerFault.{LowerFault}
use Rattle.lower.specs.declared.fault.LowerFault.TheVariants.{OutOfMemory, TooManyRegisters, TooMuchCode, NestedTooDeep}
use Rattle.lower.specs.Nested.{nested_too_deep}
use Rattle.lower.specs.Limits.{picked_for}
use Rattle.lower.specs.Faults.{IsLowerFaultOf}
use Rattle.lower.specs.inner.Parts.{made_behind, IsOfDefinition, IsOfItem, IsOfCode}
use Rattle.lower.proofs.Better.{body_more}
use Rattle.lower.proofs.Bodies.{definition_made, front_and_rest, front_more, one_more}
use Rattle.syntax.proofs.typing.Items.{items_more}

-- a function needs its parameters' registers at least
pub parameters_fit : (p : Program) (f : Function) (body : Stmts) (from : ℕ) (l : Lists) → length f.parameters ≤ (body_written p f body from l).lists.registers
parameters_fit p f body from l =
    let a = stmts_more p body (no_exits f.result) (parameter_locals f.parameters) from (record l { registers = length f.parameters; layout = nothing_preloaded }) in
    let b = body_more p f body from l in
    omega (arith, a, b)

of_definition : (f : Function) (from n : ℕ) (w : Written) (e : LowerFault) → IsOfDefinition f w.lists.registers n e → IsOfItem (Defines f) (function_code f from w ∷ []) n e
of_definition f from n w OutOfMemory h = tt
of_definition f from n w (TooManyRegisters at) h = (h.0, (function_code f from w, (0, omega arith, refl), refl, h.1))
of_definition f from n w (TooMuchCode at) h = h
of_definition f from n w (NestedTooDeep at) h = h

pub definition_fault : {A : Type 0} (p : Program) (item : OwnItem A) (f : OwnFunction A) (body slice : List (OwnStmt A)) (from : ℕ) (l : Lists) (done : List Instr) (e : LowerFault) → item ≡ own.Function f → f.body ≡ Some body → slice ≡ body →
    IsOfDefinition (function_of f) (body_written p (function_of f) (stmts_of slice) from l).lists.registers (length (done ++ (body_written p (function_of f) (stmts_of slice) from l).code)) e →
    IsOfItem (item_of item) (all_made p (item_of item ∷ []) from l).functions (length (done ++ (all_made p (item_of item ∷ []) from l).code)) e
definition_fault p item f body slice from l done e is some same h =
    let F = function_of f in
    let w = body_written p F (stmts_of body) from l in
    let made : FunctionCodes = put_before (function_code F from w) w (nothing_made w.to w.lists) in
    let a : IsOfDefinition F w.lists.registers (length (done ++ w.code)) e =
    subst (λ b. IsOfDefinition F (body_written p F (stmts_of b) from l).lists.registers (length (done ++ (body_written p F (stmts_of b) from l).code)) e) same h in
    let b : IsOfDefinition F w.lists.registers (length (done ++ made.code)) e =
    subst (λ xs. IsOfDefinition F w.lists.registers (length (done ++ xs)) e) (sym (append-nil w.code)) a in
    let c : IsOfItem (item_of item) made.functions (length (done ++ made.code)) e =
    subst (λ i. IsOfItem (item_of i) made.functions (length (done ++ made.code)) e) (sym is) (of_definition F from (length (done ++ made.code)) w e b) in
    subst (λ (m : FunctionCodes). IsOfItem (item_of item) m.functions (length (done ++ m.code)) e) (sym (definition_made p item f body from l is some)) c

among : {A : Type 0} (items : List (OwnItem A)) (i : ℕ) (x : OwnItem A) → i < length items → x ≡ get_or items i x → Contains (map item_of items) (item_of x)
among items i x h is =
    let n : length (map item_of items) ≡ length items = length-map items item_of in
    let low : i < length (map item_of items) = omega (arith, n, h) in
    subst (Contains (map item_of items)) (get_or-map item_of items i x ∙ ap item_of (sym is)) (Contains-get_or (map item_of items) i (item_of x) low)

of_one : (p before : Program) (item : Item) (after : Program) (codes : List FunctionCode) (n : ℕ) (e : LowerFault) → p ≡ before ++ item ∷ after → Contains p item → ((g : FunctionCode) → Contains codes g → Contains (picked_code p).functions g) →
    picked_for p before ≤ 1048576 → n ≡ picked_for p (before ++ item ∷ []) → n ≤ length (picked_code p).instructions → IsOfItem item codes n e → IsOfCode p e
of_one p before item after codes n OutOfMemory s c d b m h k = tt
of_one p before (Defines f) after codes n (TooManyRegisters at) s c d b m h k = record {
  function = f;
  is_of = c;
  is_at = k.0;
  code = k.1.0;
  is_picked = d k.1.0 k.1.1;
  is_named = k.1.2;
  needs = k.1.3;
}
of_one p before (Defines f) after codes n (TooMuchCode at) s c d b m h k =
    let more = k.1 in (
      record {
        before = before;
        function = f;
        after = after;
        is_of = s;
        is_at = k.0;
        fits = b;
        passes = subst (λ (x : ℕ). 1048576 < x) m more;
      },
      omega (arith, h, more),
    )
of_one p before (Defines f) after codes n (NestedTooDeep at) s c d b m h k = absurd k
of_one p before item after codes n e s c d b m h k = absurd k

pub item_fault : {A : Type 0} (items : List (OwnItem A)) (i : ℕ) (x : OwnItem A) (done : FunctionCodes) (e : LowerFault) → i < length items → x ≡ get_or items i x →
    done ≡ made_for (map item_of items) (map item_of (take i items)) → length done.code ≤ 1048576 →
    IsOfItem (item_of x) (all_made (map item_of items) (item_of x ∷ []) done.to done.lists).functions (length (done.code ++ (all_made (map item_of items) (item_of x ∷ []) done.to done.lists).code)) e → IsOfCode (map item_of items) e
item_fault items i x done e h is d b k =
    let p : Program = map item_of items in
    let before : Program = map item_of (take i items) in
    let first : Program = map item_of (take (i + 1) items) in
    let after : Program = map item_of (drop (i + 1) items) in
    let parts : p ≡ before ++ item_of x ∷ after =
    sym (ap (λ xs. map item_of xs) (take-append-drop i items)) ∙ map-append item_of (take i items) (drop i items) ∙ items_more (λ its. before ++ its) items i x h is in
    let one = all_made p (item_of x ∷ []) done.to done.lists in
    let there : made_behind done one ≡ made_for p first = front_more p items i x h is d refl in
    let rest = all_made p after (made_for p first).to (made_for p first).lists in
    let halves : p ≡ first ++ after = sym (ap (λ xs. map item_of xs) (take-append-drop (i + 1) items)) ∙ map-append item_of (take (i + 1) items) (drop (i + 1) items) in
    let whole : made_of p ≡ made_behind (made_behind done one) rest = ap (made_for p) halves ∙ front_and_rest p first after 0 _ ∙ ap (λ (m : FunctionCodes). made_behind m rest) (sym there) in
    let lengths : length (made_of p).code ≡ length ((done.code ++ one.code) ++ rest.code) = ap (λ (m : FunctionCodes). length m.code) whole in
    let sum : length ((done.code ++ one.code) ++ rest.code) ≡ length (done.code ++ one.code) + length rest.code = length-append (done.code ++ one.code) rest.code in
    let n : length (map (instr_of (made_of p).lists.arguments) (made_of p).code) ≡ length (made_of p).code = length-map (made_of p).code (instr_of (made_of p).lists.arguments) in
    of_one p before (item_of x) after one.functions (length (done.code ++ one.code)) e parts (among items i x h is)
    (λ g c. subst (λ (m : FunctionCodes). Contains m.functions g) (sym whole) (Contains-append_left (done.functions ++ one.functions) rest.functions g (Contains-append_right done.functions one.functions g c)))
    (subst (λ (m : FunctionCodes). length m.code ≤ 1048576) d b) (ap (λ (m : FunctionCodes). length m.code) (there ∙ ap (made_for p) (one_more p items i x h is))) (omega (arith, lengths, sum, n)) k

-- what ? hands on
pub handed_on : {X Y : Type 0} (r : Result X LowerFault) (s : Result Y LowerFault) (f : LowerFault) (P Q : LowerFault → Type 0) → IfErr r P → r ≡ Err f → IsErr s × IsErrAnd s (λ y. y ≡ f) → ((e : LowerFault) → P e → Q e) → IfErr s Q
handed_on r (Ok y) f P Q h e g k = tt
handed_on r (Err y) f P Q h e g k = k y (subst P (sym g.1) (subst (λ q. IfErr q P) e h))

-- where no transaction lies too deep
pub of_program : (p : Program) (e : LowerFault) → nested_too_deep p ≡ None → IsOfCode p e → IsLowerFaultOf p e
of_program p OutOfMemory n h = tt
of_program p (TooManyRegisters at) n h = (n, h)
of_program p (TooMuchCode at) n h = (n, h.0, h.1)
of_program p (NestedTooDeep at) n h = absurd h
