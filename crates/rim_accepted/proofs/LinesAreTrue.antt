-- A line says what a monitor holds, or why the launch is refused.
use Rattle.std.proofs.Common.{◌≡◌, ℕ, List, [], Ok, ap, refl}
use Rattle.std.specs.Prelude.{Option, Result, unwrap_or}
use Rattle.rim_desc.specs.Part.{Part, rim_of}
use Rattle.rim_desc.specs.declared.command.Command.{Command}
use Rattle.rim_launch.specs.LaunchData.{LaunchData}
use Rattle.list_model.specs.Entries.{commands_of}
use Rattle.rmi_list.specs.Following.{IsFollowed}
use Rattle.rmi_list.specs.Measured.{page_contents, measured}
use Rattle.rmi_list.proofs.NoBytePastDigest.{contents-are-good}
use Rattle.rmi_list.proofs.ListIsFollowed.{list-is-followed}
use Rattle.ipa_layout.specs.Layout.{PlacedData}
use Rattle.rim_accepted.specs.Accepted.{accepted_of, commands_for, rim_after, rim_for}
use Rattle.rim_accepted.specs.Headline.{AcceptedAreMeasured, RefusedAreNamed}
use Rattle.rim_accepted.specs.Lines.{line_with}
use Rattle.rim_accepted.specs.declared.audit_fault.AuditFault.{AuditFault}
use Rattle.rim_accepted.proofs.AcceptedLaunches.{IsAccepted, accepted-is, refused-rim}

module _ (files : List (List ℕ)) (l : LaunchData) (p : PlacedData) (accepted : accepted_of l files ≡ Ok p) where
  parts : List Part
  parts = measured l p (page_contents l files p)

  is : IsAccepted l files p
  is = accepted-is l files p accepted

  commands : List Command
  commands = commands_of (page_contents l files p) is.entries

  followed : IsFollowed l.config.algo l.config.num_aux l.config.rec_rule commands parts
  unfolding commands is parts
  followed = list-is-followed l p (page_contents l files p) is.entries (contents-are-good l files p) is.listed

  -- the measurement of a launch that is accepted
  pub accepted-measured : rim_for l files ≡ Ok (rim_of l.config.algo (measured l p (page_contents l files p)))
  unfolding commands_for rim_for parts is commands followed
  accepted-measured =
      let rim : rim_after l commands ≡ rim_of l.config.algo parts = ap (λ (o : Option (List ℕ)). unwrap_or o []) followed.rim in
      rw (is.placed, is.listed, rim) refl

  commands-listed : commands_for l files ≡ Ok commands
  unfolding commands_for commands is
  commands-listed = rw (is.placed, is.listed) refl

pub accepted-are-measured : AcceptedAreMeasured
unfolding line_with parts is commands followed
accepted-are-measured files l p accepted = record {
  commands = commands files l.launch p accepted;
  listed = commands-listed files l.launch p accepted;
  followed = followed files l.launch p accepted;
  line = ap (λ (o : Result (List ℕ) AuditFault). line_with l o) (accepted-measured files l.launch p accepted);
}

pub refused-are-named : RefusedAreNamed
unfolding line_with
refused-are-named files l fault refused = ap (λ (o : Result (List ℕ) AuditFault). line_with l o) (refused-rim l.launch files fault refused)
