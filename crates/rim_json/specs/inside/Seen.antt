-- What a report is made of, as values. This project's choice.
use Rattle.std.specs.Prelude.{map}
use Rattle.rim_accepted.specs.Lines.{seen}
use Rattle.rim_json.specs.ReportJson.{News, Reported}
use Rattle.rim_json.specs.declared.reported.Reported.{Reported as Given}

abbrev pub news_of : Given → News
news_of given = record {
  outcomes = map seen given.outcomes.now;
  remarks = given.remarks.now;
}

abbrev pub reported : Given → Reported
reported given = record {
  program = given.program.now;
  path = given.path.now;
  bytes = given.bytes.now;
  paths = given.accepted.now.release.paths;
  files = given.accepted.now.files;
  launches = given.accepted.now.release.launches;
  news = news_of given;
  pages = given.pages;
}
