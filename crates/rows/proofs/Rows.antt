-- Every starred marked row is right: the definitions, computed.
-- Assumes nothing.
use mathlib.Core.Path.{refl}
use Rattle.frame_control.specs.FrameControl.{mode_of, fields_of, frame_control_of, reserved, well_formed}
use Rattle.addressing.specs.Addressing.{address_length, present, extended, legacy_pan_ids, current_pan_ids, pan_ids_of, pan_id_length, lengths_of}
use Rattle.header.specs.Header.{addressing_begin, frame_control_fact, addressing_fact, after_control, info_of}
use Rattle.ack.specs.Ack.{mask_efff, three_bytes, acknowledges}
use Rattle.phy.specs.Phy.{ifs_of, latest_ack_start_of}
use Rattle.radio_frame.specs.Settings.{pool_unfit, rooms_unfit, own_buffers_unfit, settings_refusal}
use Rattle.radio_frame.specs.RadioFrame.{frame_start}
use Rattle.results.specs.Results.{received_unfit, received_refusal, ack_response, ack_received, leave_receiving_ack, leave_of}
use Rattle.moves.specs.Move.{guarded_of}
use Rattle.entered.specs.Entered.{arrival_of, request_entered, entered_of}
use Rattle.entering.specs.Entering.{entering_of}
use Rattle.tasks.specs.Answers.{answers_of}
use Rattle.engine.specs.Step.{wait_move, move_of, step_of}
use Rattle.rows.specs.Rows.{Right, AllRight, EveryRow}

pub every_row : EveryRow
unfolding
    AllRight Right info_of after_control frame_control_fact addressing_fact addressing_begin lengths_of
    pan_id_length pan_ids_of current_pan_ids legacy_pan_ids extended present address_length frame_control_of fields_of mode_of reserved well_formed
    step_of move_of wait_move settings_refusal pool_unfit rooms_unfit own_buffers_unfit guarded_of entering_of entered_of request_entered arrival_of
    leave_of leave_receiving_ack ack_received ack_response answers_of received_refusal received_unfit frame_start acknowledges three_bytes mask_efff
    ifs_of latest_ack_start_of
every_row =
    ((refl, refl), ((refl, refl), ((refl, refl), ((refl, refl), (refl, (refl, ((λ k. refl), ((λ k. refl), ((λ k. refl), ((λ k. refl), ((λ k. refl), (refl, tt))))))))))))
