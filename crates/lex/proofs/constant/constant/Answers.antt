use Rattle.std.proofs.Common.{◌≡◌, ℕ, drop, ap, sym, ◌∙◌}
use Rattle.lex.proofs.pieces.Constants.{parts_found}
use Rattle.lex.proofs.steps.Steps.{large_step, glued_step, constant_step}
use Rattle.lex.proofs.constant.constant.Goals as goal

pub typed_value-requires : goal.typed_value-requires
typed_value-requires c =
    let f = parts_found c.split_at.result.1.now c.base_at-base.result c.before_len.result c.split_at-2.result.1.now c.digits_len.result c.split_at-3.result.0.now c.split_at-3.result.1.now c.suffix_at-suffix.result c.split_at-4.result.1.now
    record { of_base = c.base_at-base.ensures; of_start = c.before_len.ensures; of_on = c.split_at-2.ensures.back; of_size = c.digits_len.ensures.value; of_digits = c.split_at-3.ensures.front; of_behind = c.split_at-3.ensures.back; of_suffix = c.suffix_at-suffix.ensures; of_after = c.split_at-4.ensures.back ∙ ap (λ (n : ℕ). drop n c.split_at-3.result.1.now) c.suffix_size-size.ensures } in
    f.all_are

pub returns-in_default : goal.returns-in_default
returns-in_default c =
    let e : c.split_at.result.1.now ≡ drop c.args.at c.args.text.now = c.split_at.ensures.back ∙ ap (drop c.args.at) c.as_bytes.ensures.value in
    let f = parts_found c.split_at.result.1.now c.base_at-base.result c.before_len-2.result c.split_at-2.result.1.now c.digits_len.result c.split_at-3.result.0.now c.split_at-3.result.1.now c.suffix_at-suffix.result c.split_at-4.result.1.now
    record { of_base = c.base_at-base.ensures; of_start = c.before_len-2.ensures; of_on = c.split_at-2.ensures.back ∙ ap (λ (n : ℕ). drop n c.split_at.result.1.now) (c.before_len.ensures ∙ sym c.before_len-2.ensures); of_size = c.digits_len.ensures.value; of_digits = c.split_at-3.ensures.front; of_behind = c.split_at-3.ensures.back; of_suffix = c.suffix_at-suffix.ensures; of_after = c.split_at-4.ensures.back ∙ ap (λ (n : ℕ). drop n c.split_at-3.result.1.now) c.suffix_size-size.ensures } in
    rw c.suffix_size-size.ensures (large_step c.args.text.now c.split_at.result.1.now c.args.at c.base_at-base.result c.before_len-2.result c.split_at-3.result.0.now c.suffix_at-suffix.result c.split_at-4.result.1.now e c.requires.within c.requires.begins f c.in_default.ensures)

pub returns-then-is_glued : goal.returns-then-is_glued
returns-then-is_glued c =
    let e : c.split_at.result.1.now ≡ drop c.args.at c.args.text.now = c.split_at.ensures.back ∙ ap (drop c.args.at) c.as_bytes.ensures.value in
    let f = parts_found c.split_at.result.1.now c.base_at-base.result c.before_len-2.result c.split_at-2.result.1.now c.digits_len.result c.split_at-3.result.0.now c.split_at-3.result.1.now c.suffix_at-suffix.result c.split_at-4.result.1.now
    record { of_base = c.base_at-base.ensures; of_start = c.before_len-2.ensures; of_on = c.split_at-2.ensures.back ∙ ap (λ (n : ℕ). drop n c.split_at.result.1.now) (c.before_len.ensures ∙ sym c.before_len-2.ensures); of_size = c.digits_len.ensures.value; of_digits = c.split_at-3.ensures.front; of_behind = c.split_at-3.ensures.back; of_suffix = c.suffix_at-suffix.ensures; of_after = c.split_at-4.ensures.back ∙ ap (λ (n : ℕ). drop n c.split_at-3.result.1.now) c.suffix_size-size.ensures } in
    rw c.suffix_size-size.ensures (glued_step c.args.text.now c.split_at.result.1.now c.args.at c.base_at-base.result c.before_len-2.result c.split_at-3.result.0.now c.suffix_at-suffix.result c.split_at-4.result.1.now c.in-Some.ty e c.requires.within c.requires.begins f c.in-Some.ensures.1 (sym c.if-is_glued.ensures))

pub returns : goal.returns
returns c =
    let e : c.split_at.result.1.now ≡ drop c.args.at c.args.text.now = c.split_at.ensures.back ∙ ap (drop c.args.at) c.as_bytes.ensures.value in
    let f = parts_found c.split_at.result.1.now c.base_at-base.result c.before_len-2.result c.split_at-2.result.1.now c.digits_len.result c.split_at-3.result.0.now c.split_at-3.result.1.now c.suffix_at-suffix.result c.split_at-4.result.1.now
    record { of_base = c.base_at-base.ensures; of_start = c.before_len-2.ensures; of_on = c.split_at-2.ensures.back ∙ ap (λ (n : ℕ). drop n c.split_at.result.1.now) (c.before_len.ensures ∙ sym c.before_len-2.ensures); of_size = c.digits_len.ensures.value; of_digits = c.split_at-3.ensures.front; of_behind = c.split_at-3.ensures.back; of_suffix = c.suffix_at-suffix.ensures; of_after = c.split_at-4.ensures.back ∙ ap (λ (n : ℕ). drop n c.split_at-3.result.1.now) c.suffix_size-size.ensures } in
    rw c.suffix_size-size.ensures (constant_step c.args.text.now c.split_at.result.1.now c.args.at c.base_at-base.result c.before_len-2.result c.split_at-3.result.0.now c.suffix_at-suffix.result c.split_at-4.result.1.now c.in-Some.ty c.in-Some.value e c.requires.within c.requires.begins f c.in-Some.ensures.0 c.in-Some.ensures.1 (sym c.if-is_glued.ensures))
