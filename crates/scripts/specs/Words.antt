-- What is said of a line that is no call, and of arguments that ask for no setting.
-- Assumes nothing.
use Rattle.std.specs.Prelude.{ℕ, List, codes}
use Rattle.descriptions.specs.Words.{fault_words}
use Rattle.scripts.specs.declared.script.CommandFault.{CommandFault}
use Rattle.scripts.specs.declared.script.CommandFault.TheVariants as fault
use Rattle.scripts.specs.declared.setting.SettingFault.{SettingFault}
use Rattle.scripts.specs.declared.setting.SettingFault.TheVariants.{Corner, Arguments}

-- what a line of a script is expected to be
unfoldable pub command_fault_words : CommandFault → List ℕ
command_fault_words fault.Load = codes "a load is written load FILE LINE, with LINE a whole number below 2^64"
command_fault_words fault.Grant = codes "a grant is written grant N, with N a whole number below 2^64"
command_fault_words fault.Next = codes "a next is written next, and nothing behind it"
command_fault_words fault.Report = codes "a report is written report, and nothing behind it"
command_fault_words fault.Call = codes "a call is written load FILE LINE, grant N, next or report"

-- why arguments ask for no setting
unfoldable pub setting_fault_words : SettingFault → List ℕ
setting_fault_words (Corner f) = fault_words f
setting_fault_words Arguments = codes "the arguments are [sheet SOUTHWEST NORTHEAST] [shares], a corner as 4900000N00600000W"
