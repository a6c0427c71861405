-- The size tells a refused plan; a target of just that length takes the fresh image, any other is refused.
use Rattle.std.proofs.lemmas.Result.{err_from_is_err_and}
use Rattle.builds.proofs.Answering.{refused_plan, refused_target, built_plan, sized_fine, sized_total, sized_plan, target_long}
use borrow.Author.Rules.{rules}
use Rattle.builds.proofs.build_in.Goals as goal

pub returns-in_err-whole : goal.returns-in_err-whole
returns-in_err-whole c =
    let p = err_from_is_err_and c.from_residual.result c.from_residual.ensures.1 in
    let w = refused_plan _ c.args.target.now _ c.size.ensures _ c.in_err-whole.was in
    record { verdict = rw (p.1, p.2) w.0; left = w.1 }

pub returns-then-target-whole : goal.returns-then-target-whole
returns-then-target-whole c =
    let w = refused_target _ _ _ c.size.ensures _ c.in_ok-whole.was c.if-target-whole.true in
    record { verdict = w.0; left = w.1 }

pub shape_sized-requires : goal.shape_sized-requires
shape_sized-requires c =
    record { plan_value = sized_fine _ c.args.target.now _ c.size.ensures _ c.in_ok-whole.was; whole_value = sized_total _ c.args.target.now _ c.size.ensures _ c.in_ok-whole.was }

pub put_image-requires : goal.put_image-requires
put_image-requires c =
    record {
      plan = sized_plan _ c.args.target.now _ c.size.ensures _ c.in_ok-whole.was _ c.shape_sized.ensures.value;
      packed = search rules;
      out_len = target_long _ _ _ c.size.ensures _ c.in_ok-whole.was _ c.shape_sized.ensures.value c.if-target-whole.false;
    }

pub returns : goal.returns
returns c =
    let w = built_plan _ _ _ c.size.ensures _ c.in_ok-whole.was _ c.if-target-whole.false c.put_image.ensures in
    record { verdict = w.0; left = w.1 }
