-- What is built from an accepted plan is a good image, so events can run on it.
use Rattle.runner_files.proofs.Built.{built_lawful}
use Rattle.runner_files.proofs.run_fresh.Goals as goal

pub run_image-requires : goal.run_image-requires
run_image-requires c =
    let p = c.requires in
    built_lawful _ _ p.plan _ _ _ p.im_len c.build.ensures
