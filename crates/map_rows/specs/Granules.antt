-- The granules of the pool that the commands of a launch take, by what they become. Which command takes which granules is
-- DEN0137's (RMI_GRANULE_DELEGATE, RMI_REALM_CREATE, RMI_RTT_CREATE, RMI_DATA_CREATE, RMI_REC_CREATE).
use Rattle.std.specs.Prelude.{◌≡◌, ℕ, ◌+◌, ◌==◌, List, length, sum_by, Ok, if◌then◌else◌}
use Rattle.rim_desc.specs.declared.command.Command.{Command}
use Rattle.rim_desc.specs.declared.command.Command.TheVariants.{Delegate, RealmCreate, RttCreate, InitRipas, DataCreate, DataCreateUnknown, RecCreate, Activate}
use Rattle.list_model.specs.Entries.{Contents, Entry, commands_of}
use Rattle.rim_launch.specs.LaunchData.{LaunchData}
use Rattle.ipa_layout.specs.Layout.{PlacedData}
use Rattle.rmi_list.specs.Listed.{listed}
use Rattle.map_rows.specs.declared.granules.Granules.{Granules}

abbrev pub no_granules : Granules
no_granules = record { auxiliary = 0; pages = 0; delegated = 0; descriptors = 0; recs = 0; start_tables = 0; tables_1 = 0; tables_2 = 0; tables_3 = 0 }

-- a table of a level
abbrev pub uses_table : ℕ → Granules
uses_table level = record no_granules {
  tables_1 = if level == 1 then 1 else 0;
  tables_2 = if level == 2 then 1 else 0;
  tables_3 = if level == 3 then 1 else 0;
}

-- what a command takes: the realm begins with its start tables, and a REC has its auxiliary granules
abbrev pub uses : Command → Granules
uses (Delegate granule) = record no_granules { delegated = 1 }
uses (RealmCreate rd params) = record no_granules { descriptors = 1; start_tables = params.rtt_num_start }
uses (RttCreate rtt ipa level) = uses_table level
uses (InitRipas base top) = no_granules
uses (DataCreate granule ipa content) = record no_granules { pages = 1 }
uses (DataCreateUnknown granule ipa) = record no_granules { pages = 1 }
uses (RecCreate rec params) = record no_granules { auxiliary = length params.aux; recs = 1 }
uses Activate = no_granules

abbrev pub plus : Granules → Granules → Granules
plus a b = record {
  auxiliary = a.auxiliary + b.auxiliary;
  pages = a.pages + b.pages;
  delegated = a.delegated + b.delegated;
  descriptors = a.descriptors + b.descriptors;
  recs = a.recs + b.recs;
  start_tables = a.start_tables + b.start_tables;
  tables_1 = a.tables_1 + b.tables_1;
  tables_2 = a.tables_2 + b.tables_2;
  tables_3 = a.tables_3 + b.tables_3;
}

-- what all commands take: each number is the sum of what each of them takes
abbrev pub granules_of : List Command → Granules
granules_of commands = record {
  auxiliary = sum_by (λ c. (uses c).auxiliary) commands;
  pages = sum_by (λ c. (uses c).pages) commands;
  delegated = sum_by (λ c. (uses c).delegated) commands;
  descriptors = sum_by (λ c. (uses c).descriptors) commands;
  recs = sum_by (λ c. (uses c).recs) commands;
  start_tables = sum_by (λ c. (uses c).start_tables) commands;
  tables_1 = sum_by (λ c. (uses c).tables_1) commands;
  tables_2 = sum_by (λ c. (uses c).tables_2) commands;
  tables_3 = sum_by (λ c. (uses c).tables_3) commands;
}

-- the granules that the commands of a placed launch take, whatever its pages contain
pub record HasGranules (l : LaunchData) (p : PlacedData) (g : Granules) : Type 0 where
  pub entries : List Entry
  pub listed : listed l p ≡ Ok entries
  pub counts : (contents : Contents) → g ≡ granules_of (commands_of contents entries)
