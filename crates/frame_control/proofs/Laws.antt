-- The laws of specs/FrameControl.antt.
-- Assumes nothing.
use borrow.Author.Tests.{eqb-true}
use Rattle.std.specs.Cmp.{first_so}
use Rattle.frame_control.specs.FrameControl.{frame_control_of, fields_of, SuppressedIsVersionTwo}

pub suppressed_is_version_two : SuppressedIsVersionTwo
unfolding frame_control_of fields_of
suppressed_is_version_two low high e = eqb-true _ 2 (first_so _ _ e)
