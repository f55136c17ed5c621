use mathlib.Core.Path.{refl}
use Rattle.base.proofs.Choices.{on_false}
use Rattle.base.proofs.Tests.{tests}
use Rattle.commands.specs.Commands.{command_of}
use Rattle.commands.proofs.decode.Goals as goal

pub returns-in-10-to-255 : goal.returns-in-10-to-255
unfolding command_of
returns-in-10-to-255 c =
    on_false _ (search tests) (on_false _ (search tests) (on_false _ (search tests) (on_false _ (search tests) (on_false _ (search tests)
    (on_false _ (search tests) (on_false _ (search tests) (on_false _ (search tests) (on_false _ (search tests) refl))))))))
