-- What is picked for statements of a typed program, whose cancels stand where they should, is in order.
use Rattle.std.proofs.Common.{◌≡◌, refl, ap, subst, ◌∙◌, ℕ, zero, suc, ◌+◌, List, [], ◌∷◌, ◌++◌, length, drop, arith, Option, Some, None, Bool, true}
use Rattle.std.specs.Option.{IfSome}
use Rattle.std.proofs.lemmas.List.{length-append}
use Rattle.lex.specs.declared.token.Scalar.{Scalar}
use Rattle.lex.specs.declared.token.Scalar.TheVariants.{Int, Unsigned, LongLong}
use Rattle.syntax.specs.Tree.{Expr, Exprs, Simple, Stmt, Stmts, Empty, Declare, Do, Block, Print, If, IfElse, While, DoWhile, For, Break, Continue, Return, Transaction, Cancel, CancelOuter, Program}
use Rattle.syntax.specs.Formats.{Piece, Literal, Specifier, pieces}
use Rattle.syntax.specs.Names.{globals}
use Rattle.syntax.specs.Types.{Scope, running_scope}
use Rattle.syntax.specs.Typing as Typing
use Rattle.syntax.specs.Typing.{IsTypedProgram, scope_of_start}
use Rattle.syntax.specs.ScopeLaws.{IsSubscope}
use Rattle.syntax.proofs.typing.TypedParts.{TypedExprs, TypedExpr, TypedSimple, TypedStmt, TypedStmts}
use Rattle.bytecode.specs.declared.instr.Instr.{Instr}
use Rattle.bytecode.specs.declared.instr.Instr.TheVariants as own
use Rattle.bytecode.specs.Code.{Code, FunctionCode}
use Rattle.lower_spec.specs.Expressions.{LocalScope}
use Rattle.lower_spec.specs.Statements.{locals_of_start, locals_after}
use Rattle.selection.specs.declared.locations.Exits.{Exits}
use Rattle.selection.specs.Lists.{Lists}
use Rattle.selection.specs.Expressions.{AllEmitted, as_type, condition, emit_all}
use Rattle.selection.specs.Conditions.{Condition, test_in, going_on}
use Rattle.selection.specs.Simples.{Written, nothing_written, one_written, and_then, code_of_value, start_written}
use Rattle.selection.specs.Statements.{in_transaction, looping, left_by, if_code, branched_twice, tested_back, while_written, do_written, for_written, return_code, printing, and_one, pieces_written, print_written, for_test, for_step, stmt_code, stmts_code}
use Rattle.selection.proofs.stands.Standing.{Grows, grows_further, front_same, front_more}
use Rattle.selection.proofs.stands.Exprs.{DefinedAreCallees}
use Rattle.selection.proofs.stands.Simply.{start_agrees}
use Rattle.selection.proofs.stands.Statements.{Enclosing, enclosed_in, CancelsFit, AllCancelsFit, after_agrees}
use Rattle.selection.proofs.valid.Fitting.{fits_before}
use Rattle.selection.proofs.valid.Begins.{Are, are_front, are_behind, balanced_append}
use Rattle.selection.proofs.valid.Goods.{Meets, good_parts, good_on}
use Rattle.selection.proofs.valid.Sounds.{TestSound, AreBelow, in_size, test_on_is, test_back_is, going_on_good, going_back_good}
use Rattle.selection.proofs.valid.Expressions.{CalleesTake, due_sound, all_sound, test_sound}
use Rattle.selection.proofs.valid.Simples.{Flat, nothing_flat, one_flat, then_flat, evaluated_flat, simple_flat, declared_flat, start_flat}
use Rattle.selection.proofs.valid.Parts.{Exiting, Part, along_part, flat_part, knowing, given, then_part, jump_part, left_part, cancel_part, outer_cancel_part, transaction_part}

-- a condition with its jump, and the values of arguments, as what is written
abbrev leading : Condition → ℕ → Written
leading c false_exit = record { code = going_on c.code (test_in c) false_exit; lists = c.lists; to = c.to + 1 }

abbrev arguments_code : AllEmitted → Written
arguments_code e = record { code = e.code; lists = e.lists; to = e.to }

-- where all begins are left, none is open
all_left : (bs : List ℕ) (n : ℕ) → length bs ≡ n → drop n bs ≡ []
all_left [] zero e = refl
all_left [] (suc n) e = refl
all_left (b ∷ bs) zero e = absurd (cc)
all_left (b ∷ bs) (suc n) e = all_left bs n (omega (arith, e))

module _ (code : Code) (arguments : List ℕ) (f : FunctionCode) (end : ℕ) where
  -- the begins are open at this place of the function
  abbrev Open : List ℕ → ℕ → (ℕ → List ℕ) → Type 0
  Open bs q open_at = Meets code arguments f end open_at (q, bs)

  pieces_flat : (ps : List Piece) (rs : List ℕ) (from : ℕ) (l : Lists) → AreBelow l.registers rs → Flat code arguments f end from l (pieces_written ps rs from l)
  pieces_flat [] rs from l h = nothing_flat code arguments f end from l
  pieces_flat (Literal text ∷ ps) rs from l h =
      let more : Lists = record l { texts = l.texts ++ text ∷ [] } in
      let g = pieces_flat ps rs (from + 1) more h in
      let rest = pieces_written ps rs (from + 1) more in
      let first : Grows l more = record { arguments = front_same l.arguments; texts = front_more l.texts (text ∷ []); registers = omega arith; layout = refl } in
      let put : Instr = own.PrintText (length l.texts) in
      let y = g.to_is in
      record {
        to_is = omega (arith, y);
        grows = grows_further l more rest.lists first g.grows;
        balanced = balanced_append arguments (put ∷ []) rest.code (λ q bs. refl) g.balanced;
        goods = λ o bs k run.
            let t = (fits_before code arguments f.registers more rest.lists g.grows k).texts in
            let long : length code.texts ≡ length (l.texts ++ text ∷ []) + length t.0 = ap (λ (ts : List (List ℕ)). length ts) t.1 ∙ length-append (l.texts ++ text ∷ []) t.0 in
            let one_more : length (l.texts ++ text ∷ []) ≡ length l.texts + 1 = length-append l.texts (text ∷ []) in
            good_parts code arguments f end o from (from + 1) bs (put ∷ []) rest.code (omega arith) (λ q bs. refl) run
            (λ r. (good_on code arguments f end o from bs put [] (λ q bs. (refl, tt)) (omega (arith, long, one_more)) r, tt)) (g.goods o bs k);
      }
  pieces_flat (Specifier t ∷ ps) [] from l h = nothing_flat code arguments f end from l
  pieces_flat (Specifier t ∷ ps) (r ∷ rs) from l h = by t (pieces_flat ps rs (from + 1) l h.1)
    where
      by : (t : Scalar) → Flat code arguments f end (from + 1) l (pieces_written ps rs (from + 1) l) → Flat code arguments f end from l (and_one (printing t r) (pieces_written ps rs (from + 1) l))
      by Int g = then_flat code arguments f end from l (one_written (own.PrintSigned r) from l) (pieces_written ps rs (from + 1) l) (one_flat code arguments f end (own.PrintSigned r) from l (λ q bs. (refl, tt)) (λ k. in_size code arguments f end r l h.0 k)) g
      by Unsigned g = then_flat code arguments f end from l (one_written (own.PrintUnsigned r) from l) (pieces_written ps rs (from + 1) l) (one_flat code arguments f end (own.PrintUnsigned r) from l (λ q bs. (refl, tt)) (λ k. in_size code arguments f end r l h.0 k)) g
      by LongLong g = then_flat code arguments f end from l (one_written (own.PrintLong r) from l) (pieces_written ps rs (from + 1) l) (one_flat code arguments f end (own.PrintLong r) from l (λ q bs. (refl, tt)) (λ k. in_size code arguments f end r l h.0 k)) g

  -- a condition with its jump
  leading_part : (P : (ℕ → List ℕ) → Type 0) (bs : List ℕ) (there from : ℕ) (l : Lists) (c : Condition) → TestSound code arguments f end from l c → ((open_at : ℕ → List ℕ) → P open_at → Open bs there open_at) → Part code arguments f end P bs from l (leading c there)
  leading_part P bs there from l c h meets =
      along_part code arguments f end P bs from l (leading c there) (test_on_is code arguments f end from l c h there) h.grows
      (λ o k holds run. going_on_good code arguments f end from l c h o bs k there (meets o holds) run)

  back_part : (P : (ℕ → List ℕ) → Type 0) (bs : List ℕ) (there from : ℕ) (l : Lists) (c : Condition) → TestSound code arguments f end from l c → ((open_at : ℕ → List ℕ) → P open_at → Open bs there open_at) → Part code arguments f end P bs from l (tested_back c there)
  back_part P bs there from l c h meets =
      along_part code arguments f end P bs from l (tested_back c there) (test_back_is code arguments f end from l c h there) h.grows
      (λ o k holds run. going_back_good code arguments f end from l c h o bs k there (meets o holds) run)

  -- a branch
  if_part : (P : (ℕ → List ℕ) → Type 0) (bs : List ℕ) (from : ℕ) (l : Lists) (c : Condition) (a : Written) → TestSound code arguments f end from l c → Part code arguments f end P bs (c.to + 1) c.lists a → Part code arguments f end P bs from l (if_code c a)
  if_part P bs from l c a h g =
      let Q : (ℕ → List ℕ) → Type 0 = λ o. P o × Open bs a.to o in
      let x = h.to_is in
      let y = g.to_is in
      knowing code arguments f end Q P bs from l (if_code c a)
      (then_part code arguments f end Q bs from (c.to + 1) l (leading c a.to) a refl (leading_part Q bs a.to from l c h (λ o q. q.1)) (given code arguments f end P Q bs (c.to + 1) c.lists a g (λ o q. q.0)))
      (λ o first last are e holds. (holds, ((omega (arith, first, x, y), last), e)))

  if_else_part : (P : (ℕ → List ℕ) → Type 0) (bs : List ℕ) (from : ℕ) (l : Lists) (c : Condition) (a b : Written) → TestSound code arguments f end from l c → Part code arguments f end P bs (c.to + 1) c.lists a → Part code arguments f end P bs (a.to + 1) a.lists b →
      Part code arguments f end P bs from l (branched_twice c a b)
  if_else_part P bs from l c a b h g w =
      let Q : (ℕ → List ℕ) → Type 0 = λ o. P o × Open bs (a.to + 1) o × Open bs b.to o in
      let skip = one_written (own.Jump b.to) a.to a.lists in
      let x = h.to_is in
      let y = g.to_is in
      let z = w.to_is in
      let head = then_part code arguments f end Q bs from (c.to + 1) l (leading c (a.to + 1)) a refl (leading_part Q bs (a.to + 1) from l c h (λ o q. q.1)) (given code arguments f end P Q bs (c.to + 1) c.lists a g (λ o q. q.0)) in
      let tail = then_part code arguments f end Q bs a.to (a.to + 1) a.lists skip b refl (jump_part code arguments f end Q bs b.to a.to a.lists (λ o q. q.2)) (given code arguments f end P Q bs (a.to + 1) a.lists b w (λ o q. q.0)) in
      let m = head.many in
      let hx = head.to_is in
      let head_is : a.to ≡ from + length head.opens = omega (arith, m, hx) in
      knowing code arguments f end Q P bs from l (branched_twice c a b)
      (then_part code arguments f end Q bs from a.to l (and_then (leading c (a.to + 1)) a) (and_then skip b) refl head tail)
      (λ o first last are e holds.
      let behind_skip = are_behind o a.to (a.to + 1) (bs ∷ []) w.opens (omega arith) (are_behind o from a.to head.opens tail.opens head_is are) in
      (holds, ((omega (arith, first, x, y), omega (arith, last, z)), w.enters o behind_skip e), ((omega (arith, first, x, y, z), last), e)))

  -- where a loop's jumps lead to
  record InLoop (bs : List ℕ) (breaks continues body test out : ℕ) (open_at : ℕ → List ℕ) : Type 0 where
    breaks_at : Open bs breaks open_at
    continues_at : Open bs continues open_at
    body_at : Open bs body open_at
    test_at : Open bs test open_at
    out_at : Open bs out open_at

  in_loop : (bs : List ℕ) (x : Exits) (loops : Bool) (m : Enclosing) (breaks continues body test out : ℕ) (open_at : ℕ → List ℕ) → Exiting code arguments f end bs x loops m open_at → InLoop bs breaks continues body test out open_at → Exiting code arguments f end bs (looping x breaks continues) true m open_at
  in_loop bs x loops m breaks continues body test out o e h = record {
    in_function = e.in_function;
    in_loop = λ t. omega arith;
    breaks = λ t. h.breaks_at;
    continues = λ t. h.continues_at;
    cancels = e.cancels;
    to_outer = e.to_outer;
    outer_cancels = e.outer_cancels;
  }

  while_part : (bs : List ℕ) (x : Exits) (loops : Bool) (m : Enclosing) (from : ℕ) (l : Lists) (a test : Written) → Part code arguments f end (Exiting code arguments f end bs (looping x (from + 1) from) true m) bs (from + 2) l a →
      Part code arguments f end (Open bs (from + 2)) bs a.to a.lists test → Part code arguments f end (Exiting code arguments f end bs x loops m) bs from l (while_written a test)
  while_part bs x loops m from l a test g w =
      let P : (ℕ → List ℕ) → Type 0 = Exiting code arguments f end bs x loops m in
      let Q : (ℕ → List ℕ) → Type 0 = λ o. P o × InLoop bs (from + 1) from (from + 2) a.to test.to o in
      let enter = one_written (own.Jump a.to) from l in
      let jump = one_written (own.Jump test.to) (from + 1) l in
      let jumps =
      then_part code arguments f end Q bs from (from + 1) l enter (and_then jump a) refl (jump_part code arguments f end Q bs a.to from l (λ o q. q.1.test_at))
      (then_part code arguments f end Q bs (from + 1) (from + 2) l jump a (omega arith) (jump_part code arguments f end Q bs test.to (from + 1) l (λ o q. q.1.out_at))
      (given code arguments f end (Exiting code arguments f end bs (looping x (from + 1) from) true m) Q bs (from + 2) l a g (λ o q. in_loop bs x loops m (from + 1) from (from + 2) a.to test.to o q.0 q.1))) in
      let many = jumps.many in
      let to_is = jumps.to_is in
      let jumps_is : a.to ≡ from + length jumps.opens = omega (arith, many, to_is) in
      let y = g.to_is in
      let z = w.to_is in
      knowing code arguments f end Q P bs from l (while_written a test)
      (then_part code arguments f end Q bs from a.to l (and_then enter (and_then jump a)) test refl jumps (given code arguments f end (Open bs (from + 2)) Q bs a.to a.lists test w (λ o q. q.1.body_at)))
      (λ o first last are e holds.
      let at_test = w.enters o (are_behind o from a.to jumps.opens w.opens jumps_is are) e in
      let head = are_front o from jumps.opens w.opens are in
      let next : suc from ≡ from + 1 = omega arith in
      let body : suc (suc from) ≡ from + 2 = omega arith in (
        holds,
        record {
          breaks_at = ((omega (arith, first), omega (arith, last, y, z)), subst (λ q. o q ≡ bs) next head.1.0);
          continues_at = ((first, omega (arith, last, y, z)), head.0);
          body_at = ((omega (arith, first), omega (arith, last, y, z)), g.enters o (subst (λ q. Are o q g.opens) body head.1.1) at_test);
          test_at = ((omega (arith, first, y), omega (arith, last, z)), at_test);
          out_at = ((omega (arith, first, y, z), last), e);
        },
      ))

  -- three jumps in front of a body
  abbrev with_jumps : (from : ℕ) (l : Lists) (t1 t2 t3 : ℕ) → Written → Written
  with_jumps from l t1 t2 t3 a = and_then (one_written (own.Jump t1) from l) (and_then (one_written (own.Jump t2) (from + 1) l) (and_then (one_written (own.Jump t3) (from + 2) l) a))

  abbrev jumps_part : (Q : (ℕ → List ℕ) → Type 0) (bs : List ℕ) (from : ℕ) (l : Lists) (t1 t2 t3 : ℕ) (a : Written) → ((o : ℕ → List ℕ) → Q o → Open bs t1 o) → ((o : ℕ → List ℕ) → Q o → Open bs t2 o) → ((o : ℕ → List ℕ) → Q o → Open bs t3 o) →
      Part code arguments f end Q bs (from + 3) l a → Part code arguments f end Q bs from l (with_jumps from l t1 t2 t3 a)
  jumps_part Q bs from l t1 t2 t3 a m1 m2 m3 g =
      then_part code arguments f end Q bs from (from + 1) l (one_written (own.Jump t1) from l) (and_then (one_written (own.Jump t2) (from + 1) l) (and_then (one_written (own.Jump t3) (from + 2) l) a)) refl (jump_part code arguments f end Q bs t1 from l m1)
      (then_part code arguments f end Q bs (from + 1) (from + 2) l (one_written (own.Jump t2) (from + 1) l) (and_then (one_written (own.Jump t3) (from + 2) l) a) (omega arith) (jump_part code arguments f end Q bs t2 (from + 1) l m2)
      (then_part code arguments f end Q bs (from + 2) (from + 3) l (one_written (own.Jump t3) (from + 2) l) a (omega arith) (jump_part code arguments f end Q bs t3 (from + 2) l m3) g))

  do_part : (bs : List ℕ) (x : Exits) (loops : Bool) (m : Enclosing) (from : ℕ) (l : Lists) (a test : Written) → Part code arguments f end (Exiting code arguments f end bs (looping x (from + 1) (from + 2)) true m) bs (from + 3) l a →
      Part code arguments f end (Open bs (from + 3)) bs a.to a.lists test → Part code arguments f end (Exiting code arguments f end bs x loops m) bs from l (do_written (from + 3) a test)
  do_part bs x loops m from l a test g w =
      let P : (ℕ → List ℕ) → Type 0 = Exiting code arguments f end bs x loops m in
      let Q : (ℕ → List ℕ) → Type 0 = λ o. P o × InLoop bs (from + 1) (from + 2) (from + 3) a.to test.to o in
      let jumps =
      jumps_part Q bs from l (from + 3) test.to a.to a (λ o q. q.1.body_at) (λ o q. q.1.out_at) (λ o q. q.1.test_at)
      (given code arguments f end (Exiting code arguments f end bs (looping x (from + 1) (from + 2)) true m) Q bs (from + 3) l a g (λ o q. in_loop bs x loops m (from + 1) (from + 2) (from + 3) a.to test.to o q.0 q.1)) in
      let many = jumps.many in
      let to_is = jumps.to_is in
      let jumps_is : a.to ≡ from + length jumps.opens = omega (arith, many, to_is) in
      let y = g.to_is in
      let z = w.to_is in
      knowing code arguments f end Q P bs from l (do_written (from + 3) a test)
      (then_part code arguments f end Q bs from a.to l (with_jumps from l (from + 3) test.to a.to a) test refl jumps (given code arguments f end (Open bs (from + 3)) Q bs a.to a.lists test w (λ o q. q.1.body_at)))
      (λ o first last are e holds.
      let at_test = w.enters o (are_behind o from a.to jumps.opens w.opens jumps_is are) e in
      let head = are_front o from jumps.opens w.opens are in
      let next : suc from ≡ from + 1 = omega arith in
      let second : suc (suc from) ≡ from + 2 = omega arith in
      let body : suc (suc (suc from)) ≡ from + 3 = omega arith in (
        holds,
        record {
          breaks_at = ((omega (arith, first), omega (arith, last, y, z)), subst (λ q. o q ≡ bs) next head.1.0);
          continues_at = ((omega (arith, first), omega (arith, last, y, z)), subst (λ q. o q ≡ bs) second head.1.1.0);
          body_at = ((omega (arith, first), omega (arith, last, y, z)), g.enters o (subst (λ q. Are o q g.opens) body head.1.1.1) at_test);
          test_at = ((omega (arith, first, y), omega (arith, last, z)), at_test);
          out_at = ((omega (arith, first, y, z), last), e);
        },
      ))

  for_part : (bs : List ℕ) (x : Exits) (loops : Bool) (m : Enclosing) (from : ℕ) (l : Lists) (start a next test : Written) → Flat code arguments f end from l start →
      Part code arguments f end (Exiting code arguments f end bs (looping x (start.to + 1) (start.to + 2)) true m) bs (start.to + 3) start.lists a → Flat code arguments f end a.to a.lists next →
      Part code arguments f end (Open bs (start.to + 3)) bs next.to next.lists test → Part code arguments f end (Exiting code arguments f end bs x loops m) bs from l (for_written start a next test)
  for_part bs x loops m from l start a next test s g n w =
      let P : (ℕ → List ℕ) → Type 0 = Exiting code arguments f end bs x loops m in
      let Q : (ℕ → List ℕ) → Type 0 = λ o. P o × InLoop bs (start.to + 1) (start.to + 2) (start.to + 3) next.to test.to o × Open bs a.to o in
      let first_part = flat_part code arguments f end Q bs from l start s in
      let step_part = flat_part code arguments f end Q bs a.to a.lists next n in
      let jumps =
      jumps_part Q bs start.to start.lists next.to test.to a.to a (λ o q. q.1.test_at) (λ o q. q.1.out_at) (λ o q. q.2)
      (given code arguments f end (Exiting code arguments f end bs (looping x (start.to + 1) (start.to + 2)) true m) Q bs (start.to + 3) start.lists a g
      (λ o q. in_loop bs x loops m (start.to + 1) (start.to + 2) (start.to + 3) next.to test.to o q.0 q.1)) in
      let inner = with_jumps start.to start.lists next.to test.to a.to a in
      let one = then_part code arguments f end Q bs from start.to l start inner refl first_part jumps in
      let two = then_part code arguments f end Q bs from a.to l (and_then start inner) next refl one step_part in
      let first_many = first_part.many in
      let one_many = one.many in
      let one_to = one.to_is in
      let two_many = two.many in
      let two_to = two.to_is in
      let many = jumps.many in
      let to_is = jumps.to_is in
      let v = s.to_is in
      let start_is : start.to ≡ from + length first_part.opens = omega (arith, first_many, v) in
      let jumps_is : a.to ≡ start.to + length jumps.opens = omega (arith, many, to_is) in
      let one_is : a.to ≡ from + length one.opens = omega (arith, one_many, one_to) in
      let two_is : next.to ≡ from + length two.opens = omega (arith, two_many, two_to) in
      let y = g.to_is in
      let u = n.to_is in
      let z = w.to_is in
      knowing code arguments f end Q P bs from l (for_written start a next test)
      (then_part code arguments f end Q bs from next.to l (and_then (and_then start inner) next) test refl two (given code arguments f end (Open bs (start.to + 3)) Q bs next.to next.lists test w (λ o q. q.1.body_at)))
      (λ o first last are e holds.
      let at_test = w.enters o (are_behind o from next.to two.opens w.opens two_is are) e in
      let before_test = are_front o from two.opens w.opens are in
      let at_step = step_part.enters o (are_behind o from a.to one.opens step_part.opens one_is before_test) at_test in
      let head = are_behind o from start.to first_part.opens jumps.opens start_is (are_front o from one.opens step_part.opens before_test) in
      let further : suc start.to ≡ start.to + 1 = omega arith in
      let second : suc (suc start.to) ≡ start.to + 2 = omega arith in
      let body : suc (suc (suc start.to)) ≡ start.to + 3 = omega arith in (
        holds,
        record {
          breaks_at = ((omega (arith, first, v), omega (arith, last, y, u, z)), subst (λ q. o q ≡ bs) further head.1.0);
          continues_at = ((omega (arith, first, v), omega (arith, last, y, u, z)), subst (λ q. o q ≡ bs) second head.1.1.0);
          body_at = ((omega (arith, first, v), omega (arith, last, y, u, z)), g.enters o (subst (λ q. Are o q g.opens) body head.1.1.1) at_step);
          test_at = ((omega (arith, first, v, y, u), omega (arith, last, z)), at_test);
          out_at = ((omega (arith, first, v, y, u, z), last), e);
        },
        ((omega (arith, first, v, y), omega (arith, last, u, z)), at_step),
      ))

  module _ (p : Program) (typed : IsTypedProgram p) (takes : CalleesTake p code) (defined : DefinedAreCallees p) (shares : code.globals ≡ globals p) where
    module _ (known : Scope) (scope : LocalScope) (agrees : IsSubscope known (running_scope p scope)) where
      test : (c : Expr) → TypedExpr known c → (from : ℕ) (l : Lists) → TestSound code arguments f end from l (condition p scope c from (length scope) l)
      test c h from l = test_sound p code arguments f end typed takes defined shares known scope agrees c h from (length scope) l

      test_part : (bs : List ℕ) (c : Expr) → TypedExpr known c → (there from : ℕ) (l : Lists) → Part code arguments f end (Open bs there) bs from l (tested_back (condition p scope c from (length scope) l) there)
      test_part bs c h there from l = back_part (Open bs there) bs there from l (condition p scope c from (length scope) l) (test c h from l) (λ o m. m)

      for_test_part : (bs : List ℕ) (c : Option Expr) → IfSome c (TypedExpr known) → (there from : ℕ) (l : Lists) → Part code arguments f end (Open bs there) bs from l (for_test p scope c there from l)
      for_test_part bs None h there from l = jump_part code arguments f end (Open bs there) bs there from l (λ o m. m)
      for_test_part bs (Some c) h there from l = test_part bs c h there from l

      step_flat : (step : Option Simple) → IfSome step (TypedSimple known) → (from : ℕ) (l : Lists) → Flat code arguments f end from l (for_step p scope step from l)
      step_flat None h from l = nothing_flat code arguments f end from l
      step_flat (Some s) h from l = simple_flat code arguments f end p typed takes defined shares known scope agrees s h from l

      print_flat : (format : List ℕ) (es : Exprs) → TypedExprs known es → (from : ℕ) (l : Lists) → Flat code arguments f end from l (print_written (emit_all p scope [] es (from + 1) (length scope) l) (pieces format))
      print_flat format es h from l =
          let args = emit_all p scope [] es (from + 1) (length scope) l in
          let g = all_sound p code arguments f end typed takes defined shares known scope agrees [] es h (from + 1) (length scope) l in
          let first = one_written own.Irrevocable from l in
          then_flat code arguments f end from l (and_then first (arguments_code args)) (pieces_written (pieces format) args.registers args.to args.lists)
          (then_flat code arguments f end from l first (arguments_code args) (one_flat code arguments f end own.Irrevocable from l (λ q bs. (refl, tt)) (λ k. tt)) (record { to_is = g.to_is; grows = g.grows; balanced = g.balanced; goods = g.goods }))
          (pieces_flat (pieces format) args.registers args.to args.lists g.location)

      return_part : (bs : List ℕ) (x : Exits) (loops : Bool) (m : Enclosing) (e : Expr) → TypedExpr known e → (from : ℕ) (l : Lists) →
          Part code arguments f end (Exiting code arguments f end bs x loops m) bs from l (return_code x.in_function (as_type p scope x.gives e from (length scope) (length scope) l))
      return_part bs x loops m e h from l =
          let v = as_type p scope x.gives e from (length scope) (length scope) l in
          let s = due_sound p code arguments f end typed takes defined shares known scope agrees x.gives e h from (length scope) (length scope) l in
          let P : (ℕ → List ℕ) → Type 0 = Exiting code arguments f end bs x loops m in
          then_part code arguments f end P bs from v.location.to l (code_of_value v) (left_by x.in_function (own.ReturnValue v.location.register) v.location.to v.lists) refl
          (flat_part code arguments f end P bs from l (code_of_value v) (evaluated_flat code arguments f end from l v s))
          (left_part code arguments f end P bs x.in_function (own.ReturnValue v.location.register) v.location.to v.lists (λ o exits. let i = exits.in_function in omega (arith, i))
          (λ o k exits r are. record { begins = []; are = are ∙ all_left bs x.in_function exits.in_function; written = in_size code arguments f end v.location.register v.lists s.location k; asks = refl; leads = tt }))

    mutual
      pub stmt_part : (s : Stmt) (known : Scope) (loops : Bool) (scope : LocalScope) (x : Exits) (m : Enclosing) → IsSubscope known (running_scope p scope) → TypedStmt s known loops → CancelsFit s m → (bs : List ℕ) (from : ℕ) (l : Lists) →
          Part code arguments f end (Exiting code arguments f end bs x loops m) bs from l (stmt_code p s x scope from l)
      stmt_part Empty known loops scope x m agrees h c bs from l = flat_part code arguments f end (Exiting code arguments f end bs x loops m) bs from l (nothing_written from l) (nothing_flat code arguments f end from l)
      stmt_part (Declare d) known loops scope x m agrees h c bs from l =
          flat_part code arguments f end (Exiting code arguments f end bs x loops m) bs from l (stmt_code p (Declare d) x scope from l) (declared_flat code arguments f end p typed takes defined shares d.ty d.declarators known scope agrees h from l)
      stmt_part (Do s) known loops scope x m agrees h c bs from l =
          flat_part code arguments f end (Exiting code arguments f end bs x loops m) bs from l (stmt_code p (Do s) x scope from l) (simple_flat code arguments f end p typed takes defined shares known scope agrees s h from l)
      stmt_part (Block ss) known loops scope x m agrees h c bs from l = stmts_part ss known loops scope x m agrees h c bs from l
      stmt_part (Print at format format_at es) known loops scope x m agrees h c bs from l =
          flat_part code arguments f end (Exiting code arguments f end bs x loops m) bs from l (stmt_code p (Print at format format_at es) x scope from l) (print_flat known scope agrees format es h.0 from l)
      stmt_part (If e a) known loops scope x m agrees h c bs from l =
          let k = condition p scope e from (length scope) l in
          if_part (Exiting code arguments f end bs x loops m) bs from l k (stmt_code p a x scope (k.to + 1) k.lists) (test known scope agrees e h.0 from l)
          (stmt_part a known loops scope x m agrees h.1 c bs (k.to + 1) k.lists)
      stmt_part (IfElse e a b) known loops scope x m agrees h c bs from l =
          let k = condition p scope e from (length scope) l in
          let first = stmt_code p a x scope (k.to + 1) k.lists in
          if_else_part (Exiting code arguments f end bs x loops m) bs from l k first (stmt_code p b x scope (first.to + 1) first.lists) (test known scope agrees e h.0 from l)
          (stmt_part a known loops scope x m agrees h.1 c.0 bs (k.to + 1) k.lists) (stmt_part b known loops scope x m agrees h.2 c.1 bs (first.to + 1) first.lists)
      stmt_part (While e a) known loops scope x m agrees h c bs from l =
          let body = stmt_code p a (looping x (from + 1) from) scope (from + 2) l in
          while_part bs x loops m from l body (tested_back (condition p scope e body.to (length scope) body.lists) (from + 2))
          (stmt_part a known true scope (looping x (from + 1) from) m agrees h.1 c bs (from + 2) l) (test_part known scope agrees bs e h.0 (from + 2) body.to body.lists)
      stmt_part (DoWhile a e) known loops scope x m agrees h c bs from l =
          let body = stmt_code p a (looping x (from + 1) (from + 2)) scope (from + 3) l in
          do_part bs x loops m from l body (tested_back (condition p scope e body.to (length scope) body.lists) (from + 3))
          (stmt_part a known true scope (looping x (from + 1) (from + 2)) m agrees h.0 c bs (from + 3) l) (test_part known scope agrees bs e h.1 (from + 3) body.to body.lists)
      stmt_part (For start e step a) known loops scope x m agrees h c bs from l =
          let inner = locals_of_start start scope in
          let known' = scope_of_start start known in
          let ahead = start_agrees p start known scope agrees in
          let first = start_written p start scope from l in
          let body = stmt_code p a (looping x (first.to + 1) (first.to + 2)) inner (first.to + 3) first.lists in
          let next = for_step p inner step body.to body.lists in
          for_part bs x loops m from l first body next (for_test p inner e (first.to + 3) next.to next.lists)
          (start_flat code arguments f end p typed takes defined shares start known scope agrees h.0 from l)
          (stmt_part a known' true inner (looping x (first.to + 1) (first.to + 2)) m ahead h.3 c bs (first.to + 3) first.lists)
          (step_flat known' inner ahead step h.2 body.to body.lists)
          (for_test_part known' inner ahead bs e h.1 (first.to + 3) next.to next.lists)
      stmt_part (Break at) known loops scope x m agrees h c bs from l =
          left_part code arguments f end (Exiting code arguments f end bs x loops m) bs x.in_loop (own.Jump x.break_to) from l (λ o exits. exits.in_loop h)
          (λ o k exits r are. let there = exits.breaks h in record { begins = drop x.in_loop bs; are = are; written = there.0; asks = tt; leads = (there, tt) })
      stmt_part (Continue at) known loops scope x m agrees h c bs from l =
          left_part code arguments f end (Exiting code arguments f end bs x loops m) bs x.in_loop (own.Jump x.continue_to) from l (λ o exits. exits.in_loop h)
          (λ o k exits r are. let there = exits.continues h in record { begins = drop x.in_loop bs; are = are; written = there.0; asks = tt; leads = (there, tt) })
      stmt_part (Return None at) known loops scope x m agrees h c bs from l =
          left_part code arguments f end (Exiting code arguments f end bs x loops m) bs x.in_function own.Return from l (λ o exits. let i = exits.in_function in omega (arith, i))
          (λ o k exits r are. record { begins = []; are = are ∙ all_left bs x.in_function exits.in_function; written = tt; asks = refl; leads = tt })
      stmt_part (Return (Some e) at) known loops scope x m agrees h c bs from l = return_part known scope agrees bs x loops m e h from l
      stmt_part (Transaction kind ss at) known loops scope x m agrees h c bs from l =
          transaction_part code arguments f end bs x loops m kind from l (stmts_code p ss (in_transaction kind x) scope (from + 1) l)
          (stmts_part ss known loops scope (in_transaction kind x) (enclosed_in kind m) agrees h c (from ∷ bs) (from + 1) l)
      stmt_part (Cancel at) known loops scope x m agrees h c bs from l = cancel_part code arguments f end bs x loops m c from l
      stmt_part (CancelOuter at) known loops scope x m agrees h c bs from l = outer_cancel_part code arguments f end bs x loops m c from l

      pub stmts_part : (ss : Stmts) (known : Scope) (loops : Bool) (scope : LocalScope) (x : Exits) (m : Enclosing) → IsSubscope known (running_scope p scope) → TypedStmts ss known loops → AllCancelsFit ss m → (bs : List ℕ) (from : ℕ) (l : Lists) →
          Part code arguments f end (Exiting code arguments f end bs x loops m) bs from l (stmts_code p ss x scope from l)
      stmts_part Stmts.[] known loops scope x m agrees h c bs from l = flat_part code arguments f end (Exiting code arguments f end bs x loops m) bs from l (nothing_written from l) (nothing_flat code arguments f end from l)
      stmts_part (Stmts.◌∷◌ s ss) known loops scope x m agrees h c bs from l =
          let first = stmt_code p s x scope from l in
          then_part code arguments f end (Exiting code arguments f end bs x loops m) bs from first.to l first (stmts_code p ss x (locals_after s scope) first.to first.lists) refl
          (stmt_part s known loops scope x m agrees h.0 c.0 bs from l)
          (stmts_part ss (Typing.scope_after s known) loops (locals_after s scope) x m (after_agrees p s known scope agrees) h.1 c.1 bs first.to first.lists)
